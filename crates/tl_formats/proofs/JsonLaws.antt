-- Parts that are written as lines of JSON and merged have the lines of the whole.
use Rattle.std.proofs.Common.{◌≡◌, ℕ, ◌==◌, inl, inr, false, List, [], ◌∷◌, ◌++◌, refl, sym, ap, subst, ◌∙◌}
use Rattle.std.specs.Prelude.{Vec, filter, map}
use Rattle.std.specs.List.{All, Contains, flat_map}
use Rattle.std.specs.Option.{option_map_or}
use Rattle.std.specs.declared.alloc.Global.{Global}
use Rattle.std.proofs.lemmas.List.{append_assoc, append_cancel_right, map-append}
use Rattle.std.proofs.lemmas.List.Splits.{slice_split_at}
use Rattle.tl_text.specs.Words.{ended, lines_of}
use Rattle.tl_topology.specs.Topology.{Topology}
use Rattle.tl_beats.specs.declared.Row.{Row}
use Rattle.tl_definitions.proofs.Lists.{contains_here, contains_there, contains_kept, kept_from}
use Rattle.tl_formats.specs.JsonParts.{told_link, text_by, AreOneLine, JsonPartsMakeTheWhole}
use Rattle.tl_formats.specs.JsonReports.{json_link, json_rows, line_in, pieces, IsOfItsLine}
use Rattle.tl_formats.specs.Merging.{IsByLink}
use Rattle.tl_formats.specs.Parts.{lines_in}
use Rattle.tl_formats.specs.declared.json_report.JsonReport.{JsonReport}
use Rattle.tl_formats.specs.declared.json_row.JsonRow.{JsonRow}
use Rattle.tl_formats.specs.declared.report_row.ReportRow.{ReportRow}
use Rattle.tl_formats.proofs.MergeLaws.{itself, lines_at, lines_of_whole, lines_rise, on, part_in_whole, risen}

-- ---- lists of lists

mapped : {X Y Z : Type 0} (g : Y → Z) (f : X → Y) (xs : List X) → map (λ x. g (f x)) xs ≡ map g (map f xs)
mapped g f [] = refl
mapped g f (x ∷ xs) = ap (λ ys. g (f x) ∷ ys) (mapped g f xs)

joined : {X : Type 0} (line : X → List ℕ) (xs : List X) → flat_map (λ x. ended (line x)) xs ≡ flat_map ended (map line xs)
joined line [] = refl
joined line (x ∷ xs) = ap (λ bytes. ended (line x) ++ bytes) (joined line xs)

no_item : {X : Type 0} (x : X) (xs : List X) → [] ≡ x ∷ xs → ⊥
no_item x xs e = cc

same_items : {X : Type 0} (x y : X) (xs ys : List X) → x ∷ xs ≡ y ∷ ys → (x ≡ y) × (xs ≡ ys)
same_items x y xs ys e = (cc, cc)

member : {X : Type 0} (P : X → Type 0) (xs : List X) → All P xs → (x : X) → Contains xs x → P x
member P xs all x c = subst P c.2 (all c.0 x c.1)

-- ---- texts

-- A text is cut into the lines that it is made of.
lines_again : (line : Row → List ℕ) (rows : List Row) → AreOneLine line rows → lines_of (text_by line rows) ≡ map line rows ++ [] ∷ []
lines_again line [] free = refl
lines_again line (x ∷ rows) free =
    ap lines_of (append_assoc (line x) (10 ∷ []) (text_by line rows))
    ∙ slice_split_at (λ byte. byte == 10) (line x) 10 (text_by line rows) (free x (contains_here x rows)) refl
    ∙ ap (λ lines. line x ∷ lines) (lines_again line rows (λ y c. free y (contains_there x rows y c)))

same_lines : (line : Row → List ℕ) (reports : List JsonReport) (parts : List (List Row)) → ((part : List Row) → Contains parts part → AreOneLine line part)
    → map (λ report. pieces (json_rows report)) reports ≡ map (λ part. lines_of (text_by line part)) parts → map line_in (flat_map json_rows reports) ≡ lines_in line parts
same_lines line [] [] free e = refl
same_lines line [] (part ∷ parts) free e = absurd (no_item _ _ e)
same_lines line (report ∷ reports) [] free e = absurd (no_item _ _ (sym e))
same_lines line (report ∷ reports) (part ∷ parts) free e =
    let same = same_items _ _ _ _ e in
    let one : map line_in (json_rows report) ≡ map line part = append_cancel_right _ _ ([] ∷ []) (same.0 ∙ lines_again line part (free part (contains_here part parts))) in
    map-append line_in (json_rows report) (flat_map json_rows reports)
    ∙ ap (λ lines. lines ++ map line_in (flat_map json_rows reports)) one
    ∙ ap (λ lines. map line part ++ lines) (same_lines line reports parts (λ other c. free other (contains_there part parts other c)) same.1)

-- ---- links

link_told : (topo : Topology) (row : JsonRow) → IsOfItsLine topo row → told_link topo (line_in row) ≡ json_link row
link_told topo row e = ap (λ found. option_map_or (λ (told : ℕ × ReportRow). told.1.link) found 0) e

-- A row that was merged is one of those that were given.
merged_from : (rows merged : List JsonRow) → IsByLink json_link rows merged → (row : JsonRow) → Contains merged row → Contains rows row
merged_from rows merged by row c =
    (kept_from (on json_link (json_link row)) rows row
    (subst (λ kept. Contains kept row) (by.same (json_link row)) (contains_kept (on json_link (json_link row)) merged row c (itself (json_link row))))).0

pub json_parts_make_the_whole : JsonPartsMakeTheWhole
json_parts_make_the_whole line topo fs regions watches shares whole parts texts made free known cut is h written m =
    let rows : List JsonRow = flat_map json_rows m.reports in
    let told : (row : JsonRow) → Contains rows row → told_link topo (line_in row) ≡ json_link row = λ row c. link_told topo row (member (IsOfItsLine topo) rows m.told row c) in
    let also : (row : JsonRow) → Contains m.merged row → told_link topo (line_in row) ≡ json_link row = λ row c. told row (merged_from rows m.merged m.merge row c) in
    let whole_free : (part : List Row) → Contains parts part → AreOneLine line part = λ part c row k. free row (part_in_whole topo fs regions watches whole is shares parts h part c row k) in
    let lines : map line_in rows ≡ lines_in line parts = same_lines line m.reports parts whole_free
    (sym m.read ∙ mapped lines_of (λ (text : Vec ℕ Global). text.items) texts ∙ ap (map lines_of) written ∙ sym (mapped lines_of (text_by line) parts)) in
    let merged : map line_in m.merged ≡ map line whole = lines_of_whole topo fs regions watches whole is line (told_link topo) known shares parts h cut (map line_in m.merged)
    (lines_rise line_in json_link (told_link topo) m.merged also (risen json_link m.merged m.merge.rises))
    (λ link. lines_at line_in json_link (told_link topo) link m.merged also ∙ ap (map line_in) (m.merge.same link)
    ∙ sym (lines_at line_in json_link (told_link topo) link rows told) ∙ ap (filter (on (told_link topo) link)) lines) in
    m.made_is ∙ joined line_in m.merged ∙ ap (flat_map ended) merged ∙ sym (joined line whole)
