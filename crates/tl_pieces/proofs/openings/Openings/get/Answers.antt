use Rattle.std.proofs.Common.{◌≡◌, ◌∙◌, ap, sym, rules}
use Rattle.std.specs.Arc.{arc_value}
use Rattle.std.specs.Ordering.{nat_cmp}
use Rattle.std.specs.Option.{option_map}
use Rattle.std.specs.BTreeMap.{is_at}
use Rattle.std.specs.Map.{lookup}
use Rattle.tl_pieces.specs.Pieces.{opening_of}
use Rattle.tl_pieces.proofs.OpeningLemmas.{opening_shown, through}
use Rattle.tl_pieces.proofs.openings.Openings.get.Goals as goal

pub returns : goal.returns
returns g c =
    let h : option_map (λ a. a.now) c.get.result ≡ lookup (is_at (nat_cmp c.args.owner)) c.self.inside.states.entries = search rules in
    through (λ a. a.now) arc_value c.get.result ∙ ap (option_map arc_value) h ∙ sym (opening_shown c.args.owner c.self.inside.states.entries) ∙ ap (opening_of c.args.owner) c.self.view_is
