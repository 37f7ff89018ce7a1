use Rattle.std.proofs.Common.{◌++◌, List, [], append-nil, sym, ap, subst, ◌∙◌}
use Rattle.std.specs.List.{Contains}
use Rattle.tl_definitions.specs.Positions.{Recorded}
use Rattle.tl_definitions.proofs.Lists.{contains_none}
use Rattle.tl_capture.specs.Present.{IsPresent}
use Rattle.tl_pass.specs.Parts.{HasJudged}
use Rattle.tl_pass.proofs.JoinLaws.{nothing}
use Rattle.tl_pass.proofs.LinkPassLaws.{judged_more}
use Rattle.tl_pass.proofs.LinkPassOwn.{own_found}
use Rattle.tl_pass.proofs.link_pass.LinkPass.begin.Goals as goal

pub returns-clause-come : goal.returns-clause-come
returns-clause-come c midway topo fs had =
    let old = c.args.self.now in
    let found = c.in_ok-found.found in
    let all : List Recorded = had.done ++ old.present in
    let items = c.in_ok-extend_from_slice.ensures.items ∙ ap (λ rs. old.rows.items ++ rs) c.deref.ensures.value in
    record {
      begins = had.begins;
      on = had.on;
      plain = had.plain;
      done = all;
      judged = subst (λ rs. HasJudged midway topo c.args.link all rs c.saturating_add-self.result) (sym items)
          (judged_more midway topo old.link c.args.link had.done old.present old.rows.items found.rows.items old.lead_ins found.lead_ins c.saturating_add-self.result had.plain had.judged had.kept had.own
          (own_found midway topo fs old had found c.in_ok-found.ensures) c.saturating_add-self.ensures c.requires);
      kept = subst IsPresent (sym c.new.ensures) nothing;
      own = λ f h. absurd (contains_none f (subst (λ ps. Contains ps f) c.new.ensures h));
      all = had.all ∙ sym (append-nil all) ∙ ap (λ ps. all ++ ps) (sym c.new.ensures);
    }
