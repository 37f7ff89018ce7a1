use Rattle.std.proofs.Common.{ℕ, inl, inr, sym, ap, subst, ◌++◌, ◌∙◌}
use Rattle.std.specs.Arc.{arc_value}
use Rattle.std.specs.List.{Contains}
use Rattle.tl_beats.specs.Fragments.{Frag}
use Rattle.tl_definitions.specs.Positions.{Recorded}
use Rattle.tl_capture.specs.Present.{recorded, put_in}
use Rattle.tl_capture.proofs.PutLemmas.{put_from}
use Rattle.tl_pass.proofs.StandingLaws.{put_last}
use Rattle.tl_pass.proofs.link_pass.LinkPass.put.Goals as goal

pub returns : goal.returns
returns c midway topo fs had =
    let old = c.args.self.now in
    let f : Frag = arc_value c.args.fragment in
    let put = c.in_ok-put.ensures.ok in
    record {
      begins = had.begins;
      on = had.on;
      plain = had.plain;
      done = had.done;
      judged = had.judged;
      kept = c.is_empty.ensures.kept;
      own = λ g h. elim (put_from (recorded old.link f) old.present g (subst (λ ps. Contains ps g) put h)) [
        | inl same ↦ ap (λ (x : Recorded). x.link) (sym same)
        | inr before ↦ had.own g before
      ];
      all = ap (put_in (recorded old.link f)) had.all ∙ put_last old.link f had.done old.present had.judged.below ∙ ap (λ ps. had.done ++ ps) (sym put);
    }
