-- Later beats that break no rule, whatever the message is.
use Rattle.std.proofs.Common.{◌≡◌, Bool, true, false, [], Some, None, refl}
use Rattle.std.specs.Prelude.{◌&&◌, not, filter}
use Rattle.tl_tables.specs.declared.Chan.TheVariants as chan
use Rattle.tl_tables.specs.declared.Op.{Op}
use Rattle.tl_tables.specs.declared.Rule.{Rule}
use Rattle.tl_tables.specs.declared.Rule.TheVariants as rule
use Rattle.tl_tables.specs.Messages.{same_chan, carries_data_of}
use Rattle.tl_topology.specs.declared.LinkDecl.{LinkDecl}
use Rattle.tl_beats.specs.declared.Beat.{Beat}
use Rattle.tl_definitions.specs.Rules.{has_mask, is_mask_ok, active_lanes}
use Rattle.std.specs.Option.{option_map_or}
use Rattle.tl_definitions.specs.Heads.{message_of}
use Rattle.tl_definitions.specs.Breaks.{is_alike, breaks_later, later_order, later_rules}

undenied : (d c e n : Bool) → (d && e && n) ≡ false → (d && c && e && n) ≡ false
undenied false c e n h = refl
undenied true false e n h = refl
undenied true true e n h = h

unmasked : (m ok : Bool) → m ≡ false → (m && ok) ≡ false
unmasked m ok h = rw h refl

none_of : (p : Rule → Bool) → p rule.F5 ≡ false → p rule.F7 ≡ false → p rule.U1 ≡ false → filter p later_order ≡ []
none_of p f5 f7 u1 = rw (f5, f7, u1) refl

pub clean : (link : LinkDecl) (o : Op) (head beat : Beat) → has_mask head.chan ≡ false → (same_chan head.chan chan.D && beat.denied && not beat.corrupt) ≡ false → is_alike head beat ≡ true
    → filter (breaks_later link o head beat) later_order ≡ []
clean link o head beat mask denied alike =
    none_of (breaks_later link o head beat) (unmasked (has_mask head.chan) (not (is_mask_ok o beat.mask (active_lanes link.width head.size head.address))) mask)
    (undenied (same_chan head.chan chan.D) (carries_data_of o) beat.denied (not beat.corrupt) denied)
    (rw alike refl)

pub none_later : (link : LinkDecl) (head beat : Beat) → ((l : LinkDecl) (o : Op) → filter (breaks_later l o head beat) later_order ≡ []) → later_rules link beat head ≡ []
none_later link head beat none = elim (message_of link head) as (λ found. option_map_or (λ o. filter (breaks_later link o head beat) later_order) found [] ≡ []) [
  | None ↦ refl
  | Some o ↦ none link o
]
