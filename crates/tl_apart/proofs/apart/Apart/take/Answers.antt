use Rattle.std.proofs.Common.{◌≡◌, ℕ, ◌<◌, Some, length, set, sym, ap, subst, ◌∙◌}
use Rattle.std.specs.Prelude.{slice_get}
use Rattle.std.proofs.lemmas.Option.{slice_get-get_or}
use Rattle.tl_topology.specs.Topology.{Topology}
use Rattle.tl_beats.specs.Fragments.{Frag}
use Rattle.tl_capture.specs.Present.{recorded, put_in}
use Rattle.tl_apart.specs.Apart.{AreApart}
use Rattle.tl_apart.specs.Beside.{Takes}
use Rattle.tl_apart.specs.Told.{ArePassed}
use Rattle.tl_apart.proofs.ApartLaws.{one_comes}
use Rattle.tl_apart.proofs.apart.Apart.take.Goals as goal

pub returns : goal.returns
returns c = record {
  came = λ topo fs had.
      let link : ℕ = c.args.link in
      let f : Frag = c.args.fragment.now in
      let feeds = c.args.self.now.feeds.items in
      let listeners = c.args.self.now.listeners.items in
      let rows = c.args.self.now.rows.items in
      let feed = c.in-Some-get_mut.feed.now in
      let next = c.accept.new.self in
      let below = subst (λ (t : Topology). c.in-Some.decl.now.manager < length t.managers) (c.deref.ensures ∙ had.is.on) c.in-Some.ensures.managed in
      let i : ℕ = c.from.result in
      let same : i ≡ link = c.from.ensures in
      let was : slice_get feeds i ≡ Some feed = slice_get-get_or feeds i feed c.in-Some-get_mut.ensures.item.3.0 ∙ ap Some (sym c.in-Some-get_mut.ensures.item.1) in
      let takes : Takes topo link f feed next = subst (λ (t : Topology). Takes t link f feed next) (c.deref-2.ensures ∙ had.is.on) c.in_ok-accept.ensures in
      let one = one_comes topo fs had.judged feeds listeners rows had.is.are i feed next was f (subst (λ n. Takes topo n f feed next) (sym same) takes) had.passed in (
        below,
        (
          link,
          takes.named,
          record {
            judged = had.judged;
            is = record { on = had.is.on; are = subst (λ n. AreApart topo (put_in (recorded n f) fs) had.judged (set feeds i next) listeners rows) same one.0 };
            passed = λ j low. subst (λ n. ArePassed topo (put_in (recorded n f) fs) j (had.judged j)) same (one.1 j low);
          },
        ),
      );
}
