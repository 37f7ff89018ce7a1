-- One line of JSON after another.
use Rattle.std.proofs.Common.{◌≡◌, ℕ, List, [], ◌∷◌, ◌++◌, Some, map, sym, ap, ◌∙◌}
use Rattle.std.proofs.lemmas.List.{append_assoc, map-append}
use Rattle.std.proofs.lemmas.Option.{none-some}
use Rattle.tl_text.specs.Words.{first_line}
use Rattle.tl_text.proofs.Cuts.{Line, first_is}
use Rattle.tl_formats.specs.JsonReports.{line_in}
use Rattle.tl_formats.specs.declared.json_row.JsonRow.{JsonRow}

first_step : (lines : List (List ℕ)) (line : List ℕ) (after : List (List ℕ)) → first_line lines ≡ Some (line, after) → lines ≡ line ∷ after
first_step [] line after e = absurd (none-some _ e)
first_step (x ∷ []) line after e = absurd (none-some _ e)
first_step (x ∷ next ∷ lines) line after e = ap (λ (q : Line). q.0 ∷ q.1) (first_is lines line after x next e)

-- The lines of rows and those after them, with one row more.
pub goes_on : (whole rest after : List (List ℕ)) (next : List ℕ) (rows : List JsonRow) (row : JsonRow) → whole ≡ map line_in rows ++ rest → first_line rest ≡ Some (next, after) → row.text.now ≡ next
    → whole ≡ map line_in (rows ++ row ∷ []) ++ after
goes_on whole rest after next rows row w first is =
    w ∙ ap (λ lines. map line_in rows ++ lines) (first_step rest next after first ∙ ap (λ line. line ∷ after) (sym is))
    ∙ sym (append_assoc (map line_in rows) (line_in row ∷ []) after)
    ∙ ap (λ lines. lines ++ after) (sym (map-append line_in rows (row ∷ [])))
