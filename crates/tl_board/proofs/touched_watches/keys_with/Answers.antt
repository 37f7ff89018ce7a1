use Rattle.std.proofs.Common.{◌≡◌, ◌∷◌, [], List, Some, None, ap, sym, subst, ◌∙◌}
use Rattle.std.specs.Prelude.{◌↔◌}
use Rattle.std.specs.List.{Contains}
use Rattle.tl_topology.specs.Topology.{number_of_name}
use Rattle.tl_beats.specs.Watches.{link_of}
use Rattle.tl_definitions.specs.Positions.{beats_of_all}
use Rattle.tl_pieces.specs.declared.key.PieceKey.{PieceKey}
use Rattle.tl_check.specs.Captured.{watched_beats}
use Rattle.tl_capture.specs.Present.{IsPresent}
use Rattle.tl_capture.specs.Windows.{HasBeat, AreWindows}
use Rattle.tl_board.specs.Windows.{AreKeysOf}
use Rattle.tl_board.proofs.TouchedWatchLemmas.{own_keys, no_keys}
use Rattle.tl_board.proofs.touched_watches.keys_with.Goals as goal

pub returns-in_default : goal.returns-in_default
returns-in_default c key =
    let topo = c.args.inputs.now.topo in
    let none : number_of_name topo.links (link_of c.args.watch.now) ≡ None = sym (ap (number_of_name topo.links) c.link.ensures) ∙ ap (λ t. number_of_name t.links c.link.result) (sym c.topo.ensures) ∙ sym c.link_of.ensures.exact ∙ c.in_default.is in
    subst (λ (keys : List PieceKey). Contains keys key ↔ ((key.owner ≡ c.args.monitor) × HasBeat (watched_beats topo c.args.inputs.now.fragments c.args.watch.now) key.window)) (sym c.new.ensures.items)
    (no_keys topo c.args.inputs.now.fragments c.args.watch.now none c.args.monitor key)

pub returns : goal.returns
returns c =
    let topo = c.args.inputs.now.topo in
    let fs = c.args.inputs.now.fragments in
    let named : number_of_name topo.links (link_of c.args.watch.now) ≡ Some c.in-Some.link = sym (ap (number_of_name topo.links) c.link.ensures) ∙ ap (λ t. number_of_name t.links c.link.result) (sym c.topo.ensures) ∙ sym c.link_of.ensures.exact ∙ c.in-Some.is in
    let is : IsPresent fs = subst IsPresent c.present.ensures c.kept-present.ensures.kept in
    own_keys topo fs c.args.watch.now c.in-Some.link named is c.args.monitor c.in_ok-windows.windows.items c.in_ok-keys.keys.items
    (subst (λ gs. AreWindows (beats_of_all (c.in-Some.link ∷ []) gs) c.in_ok-windows.windows.items) (c.kept-present.ensures.same ∙ c.present.ensures) c.in_ok-windows.ensures)
    (subst (λ ws. AreKeysOf (c.args.monitor ∷ []) ws c.in_ok-keys.keys.items) c.deref.ensures.value c.in_ok-keys.ensures)
