-- How many beats of a message a lawful past can leave missing.
use Rattle.std.proofs.Common.{◌≡◌, ℕ, zero, suc, ◌+◌, ◌-◌, ◌/◌, ◌^◌, ◌<◌, ◌≤◌, ◌==◌, ◌&&◌, max, Bool, true, false, cond, List, [], ◌∷◌, ◌++◌, length, Option, Some, None, refl, sym, ap, subst, ◌∙◌, arith, pow_mono, le_trans, div-mul-le_self}
use native.Mathlib.Nat.{div-zero, le-div_iff_mul-le}
use Rattle.std.specs.Prelude.{nat_lt, reverse}
use Rattle.std.specs.Option.{option_map_or, option_and_then}
use Rattle.std.specs.List.{slice_get}
use Rattle.std.proofs.lemmas.Bool.Decides.{nat_tests}
use Rattle.tl_tables.specs.declared.Chan.{Chan}
use Rattle.tl_tables.specs.declared.Chan.TheVariants as chan
use Rattle.tl_tables.specs.declared.Level.{Level}
use Rattle.tl_tables.specs.declared.Level.TheVariants as level
use Rattle.tl_tables.specs.declared.Op.{Op}
use Rattle.tl_tables.specs.declared.Op.TheVariants as op
use Rattle.tl_tables.specs.declared.Rule.TheVariants as rule
use Rattle.tl_tables.specs.Messages.{op_at, codes, least_level, same_chan, chan_number, level_le, carries_data_of}
use Rattle.tl_topology.specs.declared.LinkDecl.{LinkDecl}
use Rattle.tl_beats.specs.declared.Beat.{Beat}
use Rattle.tl_beats.specs.declared.Placed.{Placed}
use Rattle.tl_definitions.specs.declared.Unfinished.{Unfinished}
use Rattle.tl_definitions.specs.Heads.{message_of, beat_count, before_on, is_head, unfinished}
use Rattle.tl_definitions.specs.Messages.{at_head}
use Rattle.tl_definitions.specs.Rules.{Manager, has_size}
use Rattle.tl_definitions.specs.Breaks.{rules_at}
use Rattle.tl_definitions.proofs.HeadLaws.{unfinished_is_the_rest}
use Rattle.tl_definitions.proofs.OrderLaws.{one_chan}
use Rattle.tl_definitions.proofs.Lists.{onto_reverse}
use Rattle.tl_definitions.specs.Lawful.{has_bursts, most_missing, missing_in}
use Rattle.tl_definitions.specs.MidwayLaws.{LawfulPastsLeaveAtMost}
use Rattle.tl_definitions.proofs.Sure.{and_parts}
use Rattle.tl_definitions.proofs.Firsts.{IsClean, clean_onto, keeps_format}
use Rattle.tl_definitions.proofs.Judged.{has_later}

same_parts : {X : Type 0} (x y : X) (xs ys : List X) → x ∷ xs ≡ y ∷ ys → (x ≡ y) × (xs ≡ ys)
same_parts x y xs ys e = (cc, cc)

-- A beat of a channel, where it stands among the beats of a manager.
abbrev StandsAt : Manager → ℕ → Chan → Beat → List Beat → Type 0
StandsAt m link chan beat older = (p : Placed) × (earlier : List Placed) × (rules_at m earlier p ≡ []) × (p.beat ≡ beat) × (p.link ≡ link) × (p.beat.chan ≡ chan) × (before_on link chan earlier ≡ older)

here : (m : Manager) (link : ℕ) (chan : Chan) (p : Placed) (before : List Placed) (newer older : List Beat) (beat : Beat) → rules_at m before p ≡ [] → p.link ≡ link → p.beat.chan ≡ chan
    → ((more : List Beat) → before_on link chan before ≡ more ++ beat ∷ older → StandsAt m link chan beat older) → p.beat ∷ before_on link chan before ≡ newer ++ beat ∷ older
    → StandsAt m link chan beat older
here m link chan p before [] older beat none link_is chan_is further e =
    let parts = same_parts p.beat beat (before_on link chan before) older e in (p, before, none, parts.0, link_is, chan_is, parts.1)
here m link chan p before (n ∷ newer) older beat none link_is chan_is further e = further newer (same_parts p.beat n (before_on link chan before) (newer ++ beat ∷ older) e).1

nowhere : (newer older : List Beat) (beat : Beat) → [] ≡ newer ++ beat ∷ older → ⊥
nowhere [] older beat e = cc
nowhere (n ∷ newer) older beat e = cc

stands : (m : Manager) (link : ℕ) (chan : Chan) (before : List Placed) (newer older : List Beat) (beat : Beat) → IsClean m before → before_on link chan before ≡ newer ++ beat ∷ older
    → StandsAt m link chan beat older
stands m link chan [] newer older beat c e = absurd (nowhere newer older beat e)
stands m link chan (p ∷ before) newer older beat c e =
    let own : List Beat = before_on link chan before in
    elim ((p.link == link) && same_chan p.beat.chan chan) as (λ t. ((p.link == link) && same_chan p.beat.chan chan) ≡ t → cond t (p.beat ∷ own) own ≡ newer ++ beat ∷ older → StandsAt m link chan beat older) [
      | true ↦ λ t g. (let parts = and_parts (p.link == link) (same_chan p.beat.chan chan) t in
          let on_link : (p.link == link) ≡ true = parts.0 in
          let on_chan : (chan_number p.beat.chan == chan_number chan) ≡ true = parts.1 in
          let link_is : p.link ≡ link = grind (arith, nat_tests) in
          let number_is : chan_number p.beat.chan ≡ chan_number chan = grind (arith, nat_tests) in
          here m link chan p before newer older beat c.0 link_is (one_chan p.beat.chan chan number_is) (λ more f. stands m link chan before more older beat c.1 f) g)
      | false ↦ λ t g. stands m link chan before newer older beat c.1 g
    ] refl e

-- The channel of a message with data carries bursts.
of_level : (l lowest : Level) (o found : Op) → cond (level_le lowest l) (Some found) None ≡ Some o → level_le lowest l ≡ true
of_level l lowest o found h = elim (level_le lowest l) as (λ t. cond t (Some found) None ≡ Some o → t ≡ true) [ true ↦ λ g. refl | false ↦ λ g. cc ] h

b_level : (l : Level) (o : Op) (found : Option (Option Op)) → option_and_then (λ f. option_and_then (λ x. cond (level_le (least_level chan.B x) l) (Some x) None) f) found ≡ Some o → level_le level.C l ≡ true
b_level l o None h = cc
b_level l o (Some None) h = cc
b_level l o (Some (Some x)) h = of_level l level.C o x h

c_level : (l : Level) (o : Op) (found : Option (Option Op)) → option_and_then (λ f. option_and_then (λ x. cond (level_le (least_level chan.C x) l) (Some x) None) f) found ≡ Some o → level_le level.C l ≡ true
c_level l o None h = cc
c_level l o (Some None) h = cc
c_level l o (Some (Some x)) h = of_level l level.C o x h

e_no_data : (l : Level) (code : ℕ) (o : Op) → op_at l chan.E code ≡ Some o → carries_data_of o ≡ true → ⊥
unfolding op_at
e_no_data l zero o f h = elim (level_le level.C l) as (λ t. cond t (Some op.GrantAck) None ≡ Some o → ⊥) [
  | true ↦ λ g. (let is : op.GrantAck ≡ o = cc in let clash : true ≡ false = sym h ∙ sym (ap carries_data_of is) in cc)
  | false ↦ λ g. cc
] f
e_no_data l (suc code) o f h = cc

bursts : (l : Level) (c : Chan) (code : ℕ) (o : Op) → op_at l c code ≡ Some o → carries_data_of o ≡ true → (has_bursts l c ≡ true) × (has_size c ≡ true)
unfolding op_at
bursts l chan.A code o f h = (refl, refl)
bursts l chan.B code o f h = (b_level l o (slice_get (codes chan.B) code) f, refl)
bursts l chan.C code o f h = (c_level l o (slice_get (codes chan.C) code) f, refl)
bursts l chan.D code o f h = (refl, refl)
bursts l chan.E code o f h = absurd (e_no_data l code o f h)

small : (sized above : Bool) → sized ≡ true → (sized && above) ≡ false → above ≡ false
small true above h g = g
small false above h g = cc

divided : (a b width : ℕ) → a ≤ b → a / width ≤ b / width
divided a b zero le = subst (λ n. n ≤ b / zero) (sym (div-zero a)) (omega arith)
divided a b (suc width) le = (le-div_iff_mul-le {k = suc width} {x = a / suc width} {y = b} (omega arith)).1 (le_trans (div-mul-le_self a (suc width)) le)

count_is : (link : LinkDecl) (head : Beat) (o : Op) → message_of link head ≡ Some o → carries_data_of o ≡ true → beat_count link head ≡ max 1 (2 ^ head.size / link.width)
count_is link head o found carries =
    ap (λ f. option_map_or (λ x. cond (carries_data_of x) (max 1 (2 ^ head.size / link.width)) 1) f 1) found ∙ ap (λ t. cond t (max 1 (2 ^ head.size / link.width)) 1) carries

fits : (missing come count largest : ℕ) → (come + 1) + missing ≡ max 1 count → count ≤ largest → missing ≤ max 1 largest - 1
fits missing come count largest e le = omega arith

rest_fits : (m : Manager) (before : List Placed) (link : ℕ) (chan : Chan) (burst : Unfinished) → IsClean m before → unfinished (m.links link) (before_on link chan before) ≡ Some burst
    → burst.missing ≤ most_missing (m.links link) chan
rest_fits m before link chan burst c e =
    let decl : LinkDecl = m.links link in
    let head : Beat = burst.head in
    let known = unfinished_is_the_rest decl (before_on link chan before) burst e in
    let at = stands m link chan before known.0 known.1 head c known.2 in
    let p : Placed = at.0 in
    let earlier : List Placed = at.1 in
    let more : 1 < beat_count decl head = (let all = known.4 in let some = known.5 in omega arith) in
    let later = has_later decl head more in
    let o : Op = later.0 in
    let head_chan : head.chan ≡ chan = sym (ap (λ (b : Beat). b.chan) at.3) ∙ at.5 in
    let begins : is_head decl (before_on link chan earlier) ≡ true = subst (λ bs. is_head decl bs ≡ true) (sym at.6) known.3 in
    let by_chan : is_head decl (before_on link p.beat.chan earlier) ≡ true = subst (λ c. is_head decl (before_on link c earlier) ≡ true) (sym at.5) begins in
    let is_there : at_head m.links earlier p ≡ true = subst (λ l. is_head (m.links l) (before_on l p.beat.chan earlier) ≡ true) (sym at.4) by_chan in
    let own : message_of decl p.beat ≡ Some o = subst (λ b. message_of decl b ≡ Some o) (sym at.3) later.1 in
    let found : message_of (m.links p.link) p.beat ≡ Some o = subst (λ l. message_of (m.links l) p.beat ≡ Some o) (sym at.4) own in
    let both = bursts decl.level chan head.opcode o (subst (λ c. op_at decl.level c head.opcode ≡ Some o) head_chan later.1) later.2 in
    let sized : has_size p.beat.chan ≡ true = ap has_size at.5 ∙ both.1 in
    let not_above : nat_lt (m.links p.link).max_size p.beat.size ≡ false = small (has_size p.beat.chan) (nat_lt (m.links p.link).max_size p.beat.size) sized (keeps_format m earlier p o at.2 is_there found rule.F4) in
    let at_link : nat_lt decl.max_size p.beat.size ≡ false = subst (λ l. nat_lt (m.links l).max_size p.beat.size ≡ false) at.4 not_above in
    let of_head : nat_lt decl.max_size head.size ≡ false = subst (λ (b : Beat). nat_lt decl.max_size b.size ≡ false) at.3 at_link in
    let le : head.size ≤ decl.max_size = grind (arith, nat_tests) in
    let all : (length known.0 + 1) + burst.missing ≡ max 1 (2 ^ head.size / decl.width) = known.4 ∙ count_is decl head o later.1 later.2 in
    let most : burst.missing ≤ max 1 (2 ^ decl.max_size / decl.width) - 1 =
    fits burst.missing (length known.0) (2 ^ head.size / decl.width) (2 ^ decl.max_size / decl.width) all (divided (2 ^ head.size) (2 ^ decl.max_size) decl.width (pow_mono le)) in
    subst (λ t. burst.missing ≤ cond t (max 1 (2 ^ decl.max_size / decl.width) - 1) 0) (sym both.0) most

pub clean_leaves : (m : Manager) (before : List Placed) (link : ℕ) (chan : Chan) → IsClean m before → missing_in (unfinished (m.links link) (before_on link chan before)) ≤ most_missing (m.links link) chan
clean_leaves m before link chan c =
    elim (unfinished (m.links link) (before_on link chan before)) as (λ u. unfinished (m.links link) (before_on link chan before) ≡ u → missing_in u ≤ most_missing (m.links link) chan) [
      | None ↦ λ e. omega arith
      | Some burst ↦ λ e. rest_fits m before link chan burst c e
    ] refl

pub lawful_pasts_leave_at_most : LawfulPastsLeaveAtMost
lawful_pasts_leave_at_most m past lawful link chan =
    clean_leaves m (reverse past) link chan (subst (IsClean m) (onto_reverse [] past) (clean_onto m [] past lawful tt))
