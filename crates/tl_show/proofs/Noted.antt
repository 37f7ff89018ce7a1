-- What is shown is the plain text with notes.
use Rattle.std.proofs.Common.{◌≡◌, ℕ, zero, suc, ◌+◌, ◌<◌, Bool, true, false, cond, List, [], ◌∷◌, ◌++◌, append-nil, length, map, take, drop, get_or, Option, Some, None, Result, Ok, Err, refl, sym, ap, ◌∙◌, subst, arith}
use Rattle.std.specs.Prelude.{not, ◌==◌, ◌-◌, ◌^◌, IfOk, String, string_bytes, codes, find, slice_index_or}
use Rattle.std.specs.List.{All, AllByRecursion, list_all, flat_map, slice_get}
use Rattle.std.specs.Fmt.{decimal, digits}
use Rattle.std.specs.Option.{option_map, option_map_or}
use Rattle.std.proofs.lemmas.Bool.{and_from, and_parts}
use Rattle.std.proofs.lemmas.Grind.{flat_map-append}
use Rattle.std.proofs.lemmas.List.{take-append-drop, take_more}
use Rattle.std.proofs.lemmas.Option.{same_Some}
use Rattle.tl_text.specs.Names.{is_name}
use Rattle.tl_text.specs.Words.{cut, line_at}
use Rattle.tl_tables.specs.declared.Chan.{Chan}
use Rattle.tl_tables.specs.declared.Chan.TheVariants as chan
use Rattle.tl_tables.specs.declared.Op.{Op}
use Rattle.tl_tables.specs.declared.Op.TheVariants as op
use Rattle.tl_tables.specs.declared.Rule.{Rule}
use Rattle.tl_tables.specs.declared.Rule.TheVariants as rule
use Rattle.tl_topology.specs.Topology.{Topology, AreNamed}
use Rattle.tl_topology.specs.declared.LinkDecl.{LinkDecl}
use Rattle.tl_beats.specs.declared.Beat.{Beat}
use Rattle.tl_beats.specs.declared.Placed.{Placed}
use Rattle.tl_beats.specs.declared.Row.{Row}
use Rattle.tl_definitions.specs.Heads.{message_of}
use Rattle.tl_definitions.specs.Rules.{active_lanes}
use Rattle.tl_rows.specs.declared.reason.Reason.{Reason}
use Rattle.tl_rows.specs.declared.reason.Reason.TheVariants as why
use Rattle.tl_rows.specs.declared.telling.Told.{Told}
use Rattle.tl_tables.specs.Messages.{same_chan}
use Rattle.tl_tables.specs.Rules.{rule_text_of, rule_line_of}
use Rattle.tl_check.specs.Output.{row_text}
use Rattle.tl_check.specs.Notes.{is_unbroken, IsNoted}
use Rattle.tl_check.proofs.NoteLaws.{unbroken_more, digits_unbroken, decimal_unbroken, name_unbroken, rule_unbroken, row_is_plain, Ends, ends_here, ends_more, noted_nil, noted_more, note_line}
use Rattle.tl_rows.specs.Words.{joined, chan_text_of, op_text_of, param_texts, param_text_of, op_text_with, named_text_of, plain_text_of, numbered_text_of, coded_text_of, message_text_of, bytes_text_of, access_text_of, release_text_of, reply_text_of, ack_text_of, fields_text_of, bits_text_of, beat_text_of}
use Rattle.tl_show.specs.Lines.{link_at, words_of, beat_line_of, rule_row_of, place_text_of, named_line_of, missing_of, missing_line_of, reason_line_of, most_line_of, block_line_of, within_line_of, mask_line_of, source_line_of, head_of, is_partial, lanes_line_of, own_field_of, field_of, differs_line_of, block_at, expected_line_of, told_lines_of, bare_lines_of, IsStanding, IsNaming, IsSoundTold}
use Rattle.tl_show.specs.Shown.{is_row, lines_for, shown_row, rest_line_of, checked_text_of, asked_text_of, given_text_of, counts_line_of, shown_count, shown_rows, shown_bytes}
use Rattle.tl_show.specs.declared.survey.Counts.{Counts}
use Rattle.tl_show.proofs.KeptLaws.{all_rec, found_kept}

-- ---- pieces

-- pieces without a newline
abbrev AreFree : List (List ℕ) → Type 0
AreFree [] = Unit {0}
AreFree (x ∷ xs) = (is_unbroken x ≡ true) × AreFree xs

joined_free : (pieces : List (List ℕ)) → AreFree pieces → is_unbroken (joined pieces) ≡ true
joined_free [] are = refl
joined_free (x ∷ []) are = are.0
joined_free (x ∷ y ∷ xs) are = unbroken_more x (joined (y ∷ xs)) are.0 (joined_free (y ∷ xs) are.1)

-- the same, and then a newline
abbrev AreEnding : List (List ℕ) → Type 0
AreEnding [] = ⊥
AreEnding (x ∷ []) = x ≡ 10 ∷ []
AreEnding (x ∷ y ∷ xs) = (is_unbroken x ≡ true) × AreEnding (y ∷ xs)

joined_ends : (pieces : List (List ℕ)) → AreEnding pieces → Ends (joined pieces)
joined_ends [] are = absurd are
joined_ends (x ∷ []) are = subst Ends (sym are) ends_here
joined_ends (x ∷ y ∷ xs) are = ends_more x (joined (y ∷ xs)) are.0 (joined_ends (y ∷ xs) are.1)

-- ---- the words of a beat

chan_free : (c : Chan) → is_unbroken (chan_text_of c) ≡ true
chan_free chan.A = refl
chan_free chan.B = refl
chan_free chan.C = refl
chan_free chan.D = refl
chan_free chan.E = refl

op_free : (o : Op) → is_unbroken (op_text_of o) ≡ true
op_free op.PutFullData = refl
op_free op.PutPartialData = refl
op_free op.ArithmeticData = refl
op_free op.LogicalData = refl
op_free op.Get = refl
op_free op.Intent = refl
op_free op.AcquireBlock = refl
op_free op.AcquirePerm = refl
op_free op.ProbeBlock = refl
op_free op.ProbePerm = refl
op_free op.AccessAck = refl
op_free op.AccessAckData = refl
op_free op.HintAck = refl
op_free op.ProbeAck = refl
op_free op.ProbeAckData = refl
op_free op.Release = refl
op_free op.ReleaseData = refl
op_free op.Grant = refl
op_free op.GrantData = refl
op_free op.ReleaseAck = refl
op_free op.GrantAck = refl

params_free : (o : Op) → list_all is_unbroken (param_texts o) ≡ true
params_free op.PutFullData = refl
params_free op.PutPartialData = refl
params_free op.ArithmeticData = refl
params_free op.LogicalData = refl
params_free op.Get = refl
params_free op.Intent = refl
params_free op.AcquireBlock = refl
params_free op.AcquirePerm = refl
params_free op.ProbeBlock = refl
params_free op.ProbePerm = refl
params_free op.AccessAck = refl
params_free op.AccessAckData = refl
params_free op.HintAck = refl
params_free op.ProbeAck = refl
params_free op.ProbeAckData = refl
params_free op.Release = refl
params_free op.ReleaseData = refl
params_free op.Grant = refl
params_free op.GrantData = refl
params_free op.ReleaseAck = refl
params_free op.GrantAck = refl

got_free : (texts : List (List ℕ)) (n : ℕ) (name : List ℕ) → list_all is_unbroken texts ≡ true → slice_get texts n ≡ Some name → is_unbroken name ≡ true
got_free [] n name all is = absurd cc
got_free (x ∷ xs) zero name all is = subst (λ t. is_unbroken t ≡ true) (same_Some _ _ is) (and_parts _ _ all).0
got_free (x ∷ xs) (suc n) name all is = got_free xs n name (and_parts _ _ all).1 is

named_free : (o : Op) (name : List ℕ) (beat : Beat) → is_unbroken name ≡ true → is_unbroken (named_text_of o name beat) ≡ true
unfolding named_text_of
named_free o name beat free = joined_free (chan_text_of beat.chan ∷ codes " " ∷ op_text_of o ∷ codes " " ∷ name ∷ []) (chan_free beat.chan, (refl, (op_free o, (refl, (free, tt)))))

plain_free : (o : Op) (beat : Beat) → is_unbroken (plain_text_of o beat) ≡ true
unfolding plain_text_of
plain_free o beat = joined_free (chan_text_of beat.chan ∷ codes " " ∷ op_text_of o ∷ []) (chan_free beat.chan, (refl, (op_free o, tt)))

numbered_free : (o : Op) (beat : Beat) → is_unbroken (numbered_text_of o beat) ≡ true
unfolding numbered_text_of
numbered_free o beat = joined_free (chan_text_of beat.chan ∷ codes " " ∷ op_text_of o ∷ codes " param " ∷ decimal beat.param ∷ []) (chan_free beat.chan, (refl, (op_free o, (refl, (decimal_unbroken beat.param, tt)))))

coded_free : (beat : Beat) → is_unbroken (coded_text_of beat) ≡ true
unfolding coded_text_of
coded_free beat =
    joined_free (chan_text_of beat.chan ∷ codes " opcode " ∷ decimal beat.opcode ∷ codes " param " ∷ decimal beat.param ∷ []) (chan_free beat.chan, (refl, (decimal_unbroken beat.opcode, (refl, (decimal_unbroken beat.param, tt)))))

with_free : (o : Op) (found : Option (List ℕ)) (beat : Beat) → param_text_of o beat.param ≡ found → is_unbroken (op_text_with o found beat) ≡ true
with_free o (Some name) beat is = named_free o name beat (got_free (param_texts o) beat.param name (params_free o) is)
with_free o None beat is = elim (beat.param == 0) as (λ b. is_unbroken (cond b (plain_text_of o beat) (numbered_text_of o beat)) ≡ true) [
  | true ↦ plain_free o beat
  | false ↦ numbered_free o beat
]

message_free : (found : Option Op) (beat : Beat) → is_unbroken (message_text_of found beat) ≡ true
message_free None beat = coded_free beat
message_free (Some o) beat = with_free o (param_text_of o beat.param) beat refl

bytes_free : (size : ℕ) → is_unbroken (bytes_text_of size) ≡ true
unfolding bytes_text_of
bytes_free size = elim (size == 0) as (λ b. is_unbroken (cond b (codes "1 byte") (decimal (2 ^ size) ++ codes " bytes")) ≡ true) [
  | true ↦ refl
  | false ↦ unbroken_more (decimal (2 ^ size)) (codes " bytes") (decimal_unbroken (2 ^ size)) refl
]

hex_free : (n : ℕ) → is_unbroken (digits 16 false n) ≡ true
hex_free n = digits_unbroken 16 n (omega arith) (omega arith)

access_free : (beat : Beat) → is_unbroken (access_text_of beat) ≡ true
unfolding access_text_of
access_free beat =
    joined_free (codes ", " ∷ bytes_text_of beat.size ∷ codes " at " ∷ digits 16 false beat.address ∷ codes ", mask " ∷ digits 16 false beat.mask ∷ codes ", source " ∷ decimal beat.source ∷ [])
    (refl, (bytes_free beat.size, (refl, (hex_free beat.address, (refl, (hex_free beat.mask, (refl, (decimal_unbroken beat.source, tt))))))))

release_free : (beat : Beat) → is_unbroken (release_text_of beat) ≡ true
unfolding release_text_of
release_free beat =
    joined_free (codes ", " ∷ bytes_text_of beat.size ∷ codes " at " ∷ digits 16 false beat.address ∷ codes ", source " ∷ decimal beat.source ∷ []) (refl, (bytes_free beat.size, (refl, (hex_free beat.address, (refl, (decimal_unbroken beat.source, tt))))))

reply_free : (beat : Beat) → is_unbroken (reply_text_of beat) ≡ true
unfolding reply_text_of
reply_free beat =
    joined_free (codes ", " ∷ bytes_text_of beat.size ∷ codes ", source " ∷ decimal beat.source ∷ codes ", sink " ∷ decimal beat.sink ∷ []) (refl, (bytes_free beat.size, (refl, (decimal_unbroken beat.source, (refl, (decimal_unbroken beat.sink, tt))))))

ack_free : (beat : Beat) → is_unbroken (ack_text_of beat) ≡ true
unfolding ack_text_of
ack_free beat = joined_free (codes ", sink " ∷ decimal beat.sink ∷ []) (refl, (decimal_unbroken beat.sink, tt))

fields_free : (c : Chan) (beat : Beat) → is_unbroken (fields_text_of c beat) ≡ true
fields_free chan.A beat = access_free beat
fields_free chan.B beat = access_free beat
fields_free chan.C beat = release_free beat
fields_free chan.D beat = reply_free beat
fields_free chan.E beat = ack_free beat

bits_free : (denied corrupt : Bool) → is_unbroken (bits_text_of denied corrupt) ≡ true
bits_free true true = refl
bits_free true false = refl
bits_free false true = refl
bits_free false false = refl

beat_free : (found : Option Op) (beat : Beat) → is_unbroken (beat_text_of found beat) ≡ true
unfolding beat_text_of
beat_free found beat =
    joined_free (message_text_of found beat ∷ fields_text_of beat.chan beat ∷ bits_text_of beat.denied beat.corrupt ∷ []) (message_free found beat, (fields_free beat.chan beat, (bits_free beat.denied beat.corrupt, tt)))

-- ---- the lines of a row

named_link : (xs : List (List ℕ × LinkDecl)) (n : ℕ) (none : LinkDecl) → All (λ (p : List ℕ × LinkDecl). is_name p.1.name ≡ true) xs → n < length xs → is_name (slice_index_or (map (λ (p : List ℕ × LinkDecl). p.1) xs) n none).name ≡ true
named_link [] n none all lt = absurd (omega arith)
named_link (x ∷ xs) zero none all lt = all 0 x (omega arith)
named_link (x ∷ xs) (suc n) none all lt = named_link xs n none (λ k d below. all (suc k) d (omega arith)) (omega arith)

module _ (topo : Topology) (names : AreNamed topo) where
  link_free : (link : ℕ) → link < length topo.links → is_unbroken (link_at topo link).name ≡ true
  link_free link within = name_unbroken (link_at topo link).name (named_link topo.links link _ names within)

  words_free : (p : Placed) → is_unbroken (words_of topo p) ≡ true
  words_free p = beat_free (message_of (link_at topo p.link) p.beat) p.beat

  beat_noted : (p : Placed) → IsStanding topo p → IsNoted [] (beat_line_of topo p)
  unfolding beat_line_of
  beat_noted p is =
      let pieces = (link_at topo p.link).name ∷ codes " line " ∷ decimal p.line ∷ codes ", cycle " ∷ decimal p.beat.cycle ∷ codes ": " ∷ words_of topo p ∷ (10 ∷ []) ∷ [] in
      note_line (joined pieces) (joined_ends pieces (link_free p.link is.0, (refl, (decimal_unbroken p.line, (refl, (decimal_unbroken p.beat.cycle, (refl, (words_free p, refl))))))))

  place_free : (p : Placed) → IsStanding topo p → is_unbroken (place_text_of topo p) ≡ true
  unfolding place_text_of
  place_free p is =
      joined_free ((link_at topo p.link).name ∷ codes " fragment " ∷ decimal p.fragment ∷ codes " line " ∷ decimal p.line ∷ codes ", cycle " ∷ decimal p.beat.cycle ∷ codes ": " ∷ words_of topo p ∷ [])
      (link_free p.link is.0, (refl, (decimal_unbroken p.fragment, (refl, (decimal_unbroken p.line, (refl, (decimal_unbroken p.beat.cycle, (refl, (words_free p, tt)))))))))

  named_noted : (label : List ℕ) (p : Placed) → is_unbroken label ≡ true → IsStanding topo p → IsNoted [] (named_line_of label topo p)
  unfolding named_line_of
  named_noted label p free is =
      let pieces = label ∷ codes ": " ∷ place_text_of topo p ∷ (10 ∷ []) ∷ [] in
      note_line (joined pieces) (joined_ends pieces (free, (refl, (place_free p is, refl))))

meaning_free : (r : Rule) → is_unbroken (rule_line_of r) ≡ true
meaning_free rule.F1 = refl
meaning_free _ = refl

rule_noted : (r : Rule) → IsNoted [] (rule_row_of r)
unfolding rule_row_of
rule_noted r =
    let pieces = rule_text_of r ∷ codes ": " ∷ rule_line_of r ∷ (10 ∷ []) ∷ [] in
    note_line (joined pieces) (joined_ends pieces (rule_unbroken r, (refl, (meaning_free r, refl))))

missing_free : (r : Rule) → is_unbroken (missing_of r) ≡ true
missing_free rule.F1 = refl
missing_free _ = refl

missing_noted : (r : Rule) → IsNoted [] (missing_line_of r)
unfolding missing_line_of
missing_noted r =
    let pieces = missing_of r ∷ (10 ∷ []) ∷ [] in
    note_line (codes "none before: " ++ joined pieces) (ends_more (codes "none before: ") (joined pieces) refl (joined_ends pieces (missing_free r, refl)))

reason_noted : (topo : Topology) → AreNamed topo → (r : Rule) (reason : Reason) → IsNaming topo reason → IsNoted [] (reason_line_of topo r reason)
reason_noted topo names r why.ByItself is = noted_nil
reason_noted topo names r why.NoneBefore is = missing_noted r
reason_noted topo names r (why.Head p) is = named_noted topo names (codes "head") p refl is
reason_noted topo names r (why.Request p) is = named_noted topo names (codes "open request") p refl is
reason_noted topo names r (why.Release p) is = named_noted topo names (codes "open Release") p refl is
reason_noted topo names r (why.Probe p) is = named_noted topo names (codes "open Probe") p refl is
reason_noted topo names r (why.Grant p) is = named_noted topo names (codes "open Grant") p refl is
reason_noted topo names r (why.Setter p) is = named_noted topo names (codes "last set by") p refl is
reason_noted topo names r (why.Rival p) is = named_noted topo names (codes "other client last set by") p refl is

-- ---- what was expected

-- a note of three parts
three_noted : (front middle : List ℕ) (back : List ℕ) → is_unbroken front ≡ true → is_unbroken middle ≡ true → Ends back → IsNoted [] (32 ∷ 32 ∷ (front ++ (middle ++ back)))
three_noted front middle back a b ends = note_line (front ++ (middle ++ back)) (ends_more front (middle ++ back) a (ends_more middle back b ends))

most_noted : (size : ℕ) → IsNoted [] (most_line_of size)
unfolding most_line_of
most_noted size = three_noted (codes "expected: at most ") (bytes_text_of size) (10 ∷ []) refl (bytes_free size) ends_here

block_noted : (size : ℕ) → IsNoted [] (block_line_of size)
unfolding block_line_of
block_noted size = three_noted (codes "expected: ") (bytes_text_of size) (10 ∷ []) refl (bytes_free size) ends_here

within_noted : (lanes : ℕ) → IsNoted [] (within_line_of lanes)
unfolding within_line_of
within_noted lanes = three_noted (codes "expected: a mask within ") (digits 16 false lanes) (10 ∷ []) refl (hex_free lanes) ends_here

mask_noted : (lanes : ℕ) → IsNoted [] (mask_line_of lanes)
unfolding mask_line_of
mask_noted lanes = three_noted (codes "expected: mask ") (digits 16 false lanes) (10 ∷ []) refl (hex_free lanes) ends_here

source_noted : (sources : ℕ) → IsNoted [] (source_line_of sources)
unfolding source_line_of
source_noted sources = three_noted (codes "expected: a source below ") (decimal sources) (10 ∷ []) refl (decimal_unbroken sources) ends_here

pick_free : (b : Bool) (x y : List ℕ) → is_unbroken x ≡ true → is_unbroken y ≡ true → is_unbroken (cond b x y) ≡ true
pick_free true x y a c = a
pick_free false x y a c = c

pick_noted : (b : Bool) (x y : List ℕ) → IsNoted [] x → IsNoted [] y → IsNoted [] (cond b x y)
pick_noted true x y a c = a
pick_noted false x y a c = c

lanes_noted : (link : LinkDecl) (head : Beat) → IsNoted [] (lanes_line_of link head)
unfolding lanes_line_of
lanes_noted link head =
    let lanes = active_lanes link.width head.size head.address in
    pick_noted (is_partial link head) (within_line_of lanes) (mask_line_of lanes) (within_noted lanes) (mask_noted lanes)

field_free : (head beat : Beat) → is_unbroken (field_of head beat) ≡ true
unfolding field_of
field_free head beat =
    let bit = pick_free (head.sink == beat.sink) (codes "denied") (codes "sink") refl refl in
    let own = pick_free (same_chan head.chan chan.D) (cond (head.sink == beat.sink) (codes "denied") (codes "sink")) (codes "address") bit refl in
    let source = pick_free (head.source == beat.source) (own_field_of head beat) (codes "source") own refl in
    let size = pick_free (head.size == beat.size) (cond (head.source == beat.source) (own_field_of head beat) (codes "source")) (codes "size") source refl in
    let param = pick_free (head.param == beat.param) (cond (head.size == beat.size) (cond (head.source == beat.source) (own_field_of head beat) (codes "source")) (codes "size")) (codes "param") size refl in
    pick_free (head.opcode == beat.opcode)
    (cond (head.param == beat.param) (cond (head.size == beat.size) (cond (head.source == beat.source) (own_field_of head beat) (codes "source")) (codes "size")) (codes "param")) (codes "opcode") param refl

differs_noted : (head beat : Beat) → IsNoted [] (differs_line_of head beat)
unfolding differs_line_of
differs_noted head beat = three_noted (codes "differs from its head in: ") (field_of head beat) (10 ∷ []) refl (field_free head beat) ends_here

expected_noted : (topo : Topology) (link : LinkDecl) (r : Rule) (p : Placed) (reason : Reason) → IsNoted [] (expected_line_of topo link r p reason)
expected_noted topo link rule.F4 p reason = most_noted link.max_size
expected_noted topo link rule.F5 p reason = lanes_noted link (head_of p reason)
expected_noted topo link rule.F8 p reason = pick_noted _ _ _ (block_noted (block_at topo link)) noted_nil
expected_noted topo link rule.F9 p reason = source_noted link.sources
expected_noted topo link rule.U1 p reason = differs_noted (head_of p reason) p.beat
expected_noted topo link _ p reason = noted_nil

-- ---- rows with their lines

pub told_noted : (topo : Topology) → AreNamed topo → (told : Told) → IsSoundTold topo told → IsNoted [] (told_lines_of topo told)
unfolding told_lines_of
told_noted topo names told sound =
    noted_more [] [] _ _ (beat_noted topo names told.place sound.0)
    (noted_more [] [] _ _ (rule_noted told.row.rule)
    (noted_more [] [] _ _ (reason_noted topo names told.row.rule told.reason sound.1) (expected_noted topo (link_at topo told.place.link) told.row.rule told.place told.reason)))

lines_noted : (topo : Topology) → AreNamed topo → (told : List Told) (row : Row) → AllByRecursion (IsSoundTold topo) told → (found : Option Told) → find (is_row row) told ≡ found → IsNoted [] (option_map_or (told_lines_of topo) found [])
lines_noted topo names told row sound None is = noted_nil
lines_noted topo names told row sound (Some own) is = told_noted topo names own (found_kept (IsSoundTold topo) (is_row row) told own sound is)

module _ (topo : Topology) (names : AreNamed topo) where
  rows_plain : (rows : List Row) → AllByRecursion (λ (row : Row). row.link < length topo.links) rows → IsNoted (flat_map (row_text topo) rows) (flat_map (row_text topo) rows)
  rows_plain [] within = noted_nil
  rows_plain (row ∷ rows) within = noted_more _ _ _ _ (row_is_plain topo row names within.0) (rows_plain rows within.1)

  module _ (told : List Told) (sound : AllByRecursion (IsSoundTold topo) told) where
    row_noted : (row : Row) → row.link < length topo.links → IsNoted (row_text topo row) (shown_row topo told row)
    row_noted row within =
        subst (λ t. IsNoted t (shown_row topo told row)) (append-nil (row_text topo row))
        (noted_more (row_text topo row) [] (row_text topo row) (lines_for topo told row) (row_is_plain topo row names within) (lines_noted topo names told row sound (find (is_row row) told) refl))

    rows_noted : (rows : List Row) → AllByRecursion (λ (row : Row). row.link < length topo.links) rows → IsNoted (flat_map (row_text topo) rows) (flat_map (shown_row topo told) rows)
    rows_noted [] within = noted_nil
    rows_noted (row ∷ rows) within = noted_more _ _ _ _ (row_noted row within.0) (rows_noted rows within.1)

    -- the first rows with notes, and the others without
    all_noted : (rows : List Row) → AllByRecursion (λ (row : Row). row.link < length topo.links) rows → IsNoted (flat_map (row_text topo) rows) (shown_rows topo told rows)
    unfolding shown_rows
    all_noted rows within =
        let n = shown_count rows in
        let parts : flat_map (row_text topo) (take n rows) ++ flat_map (row_text topo) (drop n rows) ≡ flat_map (row_text topo) rows =
        sym (flat_map-append (row_text topo) (take n rows) (drop n rows)) ∙ ap (flat_map (row_text topo)) (take-append-drop n rows) in
        subst (λ t. IsNoted t (flat_map (shown_row topo told) (take n rows) ++ flat_map (row_text topo) (drop n rows))) parts
        (noted_more _ _ _ _ (rows_noted (take n rows) (first_within n rows within)) (rows_plain (drop n rows) (last_within n rows within)))
      where
        first_within : (n : ℕ) (rows : List Row) → AllByRecursion (λ (row : Row). row.link < length topo.links) rows → AllByRecursion (λ (row : Row). row.link < length topo.links) (take n rows)
        first_within zero rows all = tt
        first_within (suc n) [] all = tt
        first_within (suc n) (row ∷ rows) all = (all.0, first_within n rows all.1)

        last_within : (n : ℕ) (rows : List Row) → AllByRecursion (λ (row : Row). row.link < length topo.links) rows → AllByRecursion (λ (row : Row). row.link < length topo.links) (drop n rows)
        last_within zero rows all = all
        last_within (suc n) [] all = tt
        last_within (suc n) (row ∷ rows) all = last_within n rows all.1

-- one row more after others
pub rows_more : (topo : Topology) (rows : List Row) (i : ℕ) (d : Row) (text own : List ℕ) → i < length rows → IsNoted (flat_map (row_text topo) (take i rows)) text → IsNoted (row_text topo (get_or rows i d)) own
    → IsNoted (flat_map (row_text topo) (take (i + 1) rows)) (text ++ own)
rows_more topo rows i d text own within before is =
    let row : Row = get_or rows i d in
    let all : flat_map (row_text topo) (take i rows) ++ row_text topo row ≡ flat_map (row_text topo) (take (i + 1) rows) =
    ap (λ t. flat_map (row_text topo) (take i rows) ++ t) (sym (append-nil (row_text topo row))) ∙ sym (flat_map-append (row_text topo) (take i rows) (row ∷ []))
    ∙ sym (ap (flat_map (row_text topo)) (take_more rows i d within)) in
    subst (λ p. IsNoted p (text ++ own)) all (noted_more _ _ text own before is)

-- the lines of a row without the earlier beat
pub bare_noted : (topo : Topology) → AreNamed topo → (p : Placed) → IsStanding topo p → (r : Rule) → IsNoted [] (bare_lines_of topo p r)
unfolding bare_lines_of
bare_noted topo names p stands r = noted_more [] [] _ _ (beat_noted topo names p stands) (rule_noted r)

-- ---- the last lines

rest_noted : (count : ℕ) → IsNoted [] (rest_line_of count)
unfolding rest_line_of
rest_noted count = pick_noted (count == 0) [] _ noted_nil (three_noted (codes "rows that are not shown: ") (decimal count) (10 ∷ []) refl (decimal_unbroken count) ends_here)

checked_free : (counts : Counts) → (more : List ℕ) × (checked_text_of counts ≡ 32 ∷ 32 ∷ more) × (is_unbroken more ≡ true)
unfolding checked_text_of
checked_free counts =
    let pieces = codes "checked: beats " ∷ decimal counts.beats ∷ codes ", heads " ∷ decimal counts.heads ∷ codes ", windows " ∷ decimal counts.windows ∷ [] in
    (joined pieces, refl, joined_free pieces (refl, (decimal_unbroken counts.beats, (refl, (decimal_unbroken counts.heads, (refl, (decimal_unbroken counts.windows, tt)))))))

asked_free : (counts : Counts) → is_unbroken (asked_text_of counts) ≡ true
unfolding asked_text_of
asked_free counts =
    joined_free (codes "; open: requests " ∷ decimal counts.still_open.requests ∷ codes ", Releases " ∷ decimal counts.still_open.releases ∷ codes ", Probes " ∷ decimal counts.still_open.probes ∷ [])
    (refl, (decimal_unbroken counts.still_open.requests, (refl, (decimal_unbroken counts.still_open.releases, (refl, (decimal_unbroken counts.still_open.probes, tt))))))

given_ends : (counts : Counts) → Ends (given_text_of counts)
unfolding given_text_of
given_ends counts =
    joined_ends (codes ", Grants " ∷ decimal counts.still_open.grants ∷ codes ", bursts " ∷ decimal counts.still_open.bursts ∷ (10 ∷ []) ∷ []) (refl, (decimal_unbroken counts.still_open.grants, (refl, (decimal_unbroken counts.still_open.bursts, refl))))

counts_noted : (counts : Counts) → IsNoted [] (counts_line_of counts)
unfolding counts_line_of
counts_noted counts =
    let checked = checked_free counts in
    let rest = asked_text_of counts ++ given_text_of counts in
    subst (λ t. IsNoted [] (t ++ rest)) (sym checked.1) (note_line (checked.0 ++ rest) (ends_more checked.0 rest checked.2 (ends_more (asked_text_of counts) (given_text_of counts) (asked_free counts) (given_ends counts))))

-- All of it.
pub text_noted : (topo : Topology) (head : List ℕ) (told : List Told) (counts : Counts) (rows : List Row) → AreNamed topo → AllByRecursion (λ (row : Row). row.link < length topo.links) rows → AllByRecursion (IsSoundTold topo) told → IsNoted head head
    → IsNoted (head ++ flat_map (row_text topo) rows) (shown_bytes topo head told counts rows)
unfolding shown_bytes
text_noted topo head told counts rows names within sound plain =
    let last = noted_more [] [] _ _ (rest_noted (length rows - shown_count rows)) (counts_noted counts) in
    let body = subst (λ t. IsNoted t (shown_rows topo told rows ++ (rest_line_of (length rows - shown_count rows) ++ counts_line_of counts))) (append-nil (flat_map (row_text topo) rows))
    (noted_more (flat_map (row_text topo) rows) [] _ _ (all_noted topo names told sound rows within) last) in
    noted_more head (flat_map (row_text topo) rows) head _ plain body

pub noted_as : {Z E : Type 0} (made : Result (String Z) E) (topo : Topology) (head : List ℕ) (told : List Told) (counts : Counts) (rows : List Row) → AreNamed topo → All (λ (row : Row). row.link < length topo.links) rows → All (IsSoundTold topo) told → IsNoted head head
    → IfOk made (λ text. string_bytes text ≡ shown_bytes topo head told counts rows) → IfOk made (λ text. IsNoted (head ++ flat_map (row_text topo) rows) (string_bytes text))
noted_as (Ok text) topo head told counts rows names within sound plain is =
    subst (IsNoted (head ++ flat_map (row_text topo) rows)) (sym is)
    (text_noted topo head told counts rows names (all_rec (λ (row : Row). row.link < length topo.links) rows within) (all_rec (IsSoundTold topo) told sound) plain)
noted_as (Err fault) topo head told counts rows names within sound plain is = tt

-- ---- lines that are quoted

pub unbroken_front : (n : ℕ) (bytes : List ℕ) → is_unbroken bytes ≡ true → is_unbroken (take n bytes) ≡ true
unbroken_front zero bytes free = refl
unbroken_front (suc n) [] free = refl
unbroken_front (suc n) (b ∷ bytes) free = and_from _ _ (and_parts _ _ free).0 (unbroken_front n bytes (and_parts _ _ free).1)

-- what stands before the first newline, and what has none
by_cut : (t : Bool) (b : ℕ) (bytes : List ℕ) → (b == 10) ≡ t → is_unbroken (cut 10 bytes).0 ≡ true → is_unbroken (cond t (let p : List ℕ × Option (List ℕ) = ([], Some bytes) in p) (b ∷ (cut 10 bytes).0, (cut 10 bytes).1)).0 ≡ true
by_cut true b bytes is rest = refl
by_cut false b bytes is rest = and_from _ _ (ap not is) rest

cut_unbroken : (bytes : List ℕ) → is_unbroken (cut 10 bytes).0 ≡ true
cut_unbroken [] = refl
cut_unbroken (b ∷ bytes) = by_cut (b == 10) b bytes refl (cut_unbroken bytes)

by_none : (t : Bool) (b : ℕ) (bytes : List ℕ) → (b == 10) ≡ t → ((cut 10 bytes).1 ≡ None → is_unbroken bytes ≡ true) → (cond t (let p : List ℕ × Option (List ℕ) = ([], Some bytes) in p) (b ∷ (cut 10 bytes).0, (cut 10 bytes).1)).1 ≡ None
    → is_unbroken (b ∷ bytes) ≡ true
by_none true b bytes is rest none = absurd cc
by_none false b bytes is rest none = and_from _ _ (ap not is) (rest none)

no_newline : (bytes : List ℕ) → (cut 10 bytes).1 ≡ None → is_unbroken bytes ≡ true
no_newline [] none = refl
no_newline (b ∷ bytes) none = by_none (b == 10) b bytes refl (no_newline bytes) none

front_is : (o : Option (List ℕ)) (front : List ℕ) (x : List ℕ × List ℕ) → Some x ≡ option_map (λ rest. (let p : List ℕ × List ℕ = (front, rest) in p)) o → x.0 ≡ front
front_is None front x e = absurd cc
front_is (Some rest) front x e = ap (λ (p : List ℕ × List ℕ). p.0) (same_Some _ _ e)

pub line_unbroken : (bytes : List ℕ) (x : List ℕ × List ℕ) → Some x ≡ line_at bytes → is_unbroken x.0 ≡ true
unfolding line_at
line_unbroken bytes x e = subst (λ l. is_unbroken l ≡ true) (sym (front_is (cut 10 bytes).1 (cut 10 bytes).0 x e)) (cut_unbroken bytes)

none_is : (o : Option (List ℕ)) (front : List ℕ) → None ≡ option_map (λ rest. (let p : List ℕ × List ℕ = (front, rest) in p)) o → o ≡ None
none_is None front e = refl
none_is (Some rest) front e = absurd cc

pub whole_unbroken : (bytes : List ℕ) → None ≡ line_at bytes → is_unbroken bytes ≡ true
unfolding line_at
whole_unbroken bytes e = no_newline bytes (none_is (cut 10 bytes).1 (cut 10 bytes).0 e)

pub note_made : {Z E : Type 0} (made : Result (String Z) E) (bytes : List ℕ) → IfOk made (λ text. string_bytes text ≡ bytes) → IsNoted [] bytes → IfOk made (λ text. IsNoted [] (string_bytes text))
note_made (Ok text) bytes is noted = subst (IsNoted []) (sym is) noted
note_made (Err fault) bytes is noted = tt

pub row_made : {Z E : Type 0} (made : Result (String Z) E) (plain bytes : List ℕ) → IfOk made (λ text. string_bytes text ≡ bytes) → IsNoted plain bytes → IfOk made (λ text. IsNoted plain (string_bytes text))
row_made (Ok text) plain bytes is noted = subst (IsNoted plain) (sym is) noted
row_made (Err fault) plain bytes is noted = tt

pub line_made : {Z E : Type 0} (made : Result (String Z) E) (bytes target : List ℕ) → IfOk made (λ text. string_bytes text ≡ bytes) → target ≡ bytes → IsNoted bytes bytes → IfOk made (λ text. IsNoted target (string_bytes text))
line_made (Ok text) bytes target is same plain = subst (λ t. IsNoted t (string_bytes text)) (sym same) (subst (IsNoted bytes) (sym is) plain)
line_made (Err fault) bytes target is same plain = tt
