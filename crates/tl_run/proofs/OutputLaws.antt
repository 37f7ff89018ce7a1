-- Commands have one output, and their edits are theirs alone.
use Rattle.std.proofs.Common.{◌≡◌, ℕ, ◌+◌, Bool, true, false, List, [], ◌∷◌, ◌++◌, append_assoc, append-nil, length, Option, Some, None, refl, sym, ap, ◌∙◌, subst, nat_lt}
use Rattle.std.specs.Option.{option_map_or}
use Rattle.tl_beats.specs.declared.Row.{Row}
use Rattle.tl_definitions.specs.Report.{key_order}
use Rattle.tl_definitions.proofs.ReportLaws.{key_total, one_report, strict_one}
use Rattle.tl_edits.specs.Edits.{AnEdit}
use Rattle.tl_edits.specs.Inputs.{InputData, refusal}
use Rattle.tl_edits.specs.Log.{inputs_after}
use Rattle.tl_edits.specs.declared.fault.EditFault.{EditFault}
use Rattle.tl_check.specs.Captured.{captures_after}
use Rattle.tl_check.specs.Output.{report_bytes}
use Rattle.tl_midway.specs.declared.midway.Midway.{Midway}
use Rattle.tl_script.specs.declared.command.Command.{Command}
use Rattle.tl_script.specs.Asked.{Asking, an_edit, no_fragment, a_report, asked}
use Rattle.tl_desk.specs.Core.{most_versions}
use Rattle.tl_run.specs.Output.{Progress, Setting, HasRows, IsEdit, IsRenewed, IsPublish, IsStep, IsOutput, OneOutput, RunsKeepEdits}
use Rattle.tl_script.specs.Accepted.{edits_with, accepted}

one_edit : (now : Progress) (e : AnEdit) (why : Option EditFault) (one two : List ℕ) (here there : Progress) → IsEdit now e why one here → IsEdit now e why two there → (one ≡ two) × (here ≡ there)
one_edit now e None one two here there p q = (p.0 ∙ sym q.0, p.1 ∙ sym q.1)
one_edit now e (Some why) one two here there p q = (p.0 ∙ sym q.0, p.1 ∙ sym q.1)

-- A report has one list of rows.
one_list : (midway : Option Midway) (now : InputData) (one two : List Row) → HasRows midway now one → HasRows midway now two → one ≡ two
one_list None now one two first second = one_report (captures_after now) one two first second
one_list (Some law) now one two first second = strict_one key_order key_total one two first.rises second.rises
    (λ row. ((λ h. (second.members row).1 ((first.members row).0 h)), (λ h. (first.members row).1 ((second.members row).0 h))))

one_renewal : (setting : Setting) (now here there : Progress) → IsRenewed setting now here → IsRenewed setting now there → here ≡ there
one_renewal setting now here there p q =
    let rows = one_list setting.midway (inputs_after setting.topo now.edits) here.rows there.rows p.0 q.0 in
    p.1 ∙ ap (λ rows. record now { reports = now.reports + 1; rows = rows }) rows ∙ sym q.1

one_publish : (setting : Setting) (now : Progress) (room : Bool) (one two : List ℕ) (here there : Progress) → IsPublish setting now room one here → IsPublish setting now room two there → (one ≡ two) × (here ≡ there)
one_publish setting now true one two here there p q =
    let same = one_renewal setting now here there p.0 q.0 in
    (p.1 ∙ ap (λ (n : Progress). report_bytes setting.topo (record { version = n.reports; edit = length n.edits; rows = n.rows })) same ∙ sym q.1, same)
one_publish setting now false one two here there p q = (p.0 ∙ sym q.0, p.1 ∙ sym q.1)

one_step : (setting : Setting) (now : Progress) (asks : Asking) (one two : List ℕ) (here there : Progress) → IsStep setting now asks one here → IsStep setting now asks two there → (one ≡ two) × (here ≡ there)
unfolding IsStep
one_step setting now (an_edit e) one two here there p q = one_edit now e (refusal (length now.edits) (inputs_after setting.topo now.edits) e) one two here there p q
one_step setting now (no_fragment fault) one two here there p q = (p.0 ∙ sym q.0, p.1 ∙ sym q.1)
one_step setting now a_report one two here there p q = one_publish setting now (nat_lt now.reports most_versions) one two here there p q

pub one_output : OneOutput
one_output setting now [] one two here there p q = (p.0 ∙ sym q.0, p.1 ∙ sym q.1)
one_output setting now (c ∷ cs) one two here there (line, rest, then, step, behind, is) (more, last, after, next, others, it) =
    let same = one_step setting now (asked c) line more then after step next in
    let moved : IsOutput setting then cs last there = subst (λ n. IsOutput setting n cs last there) (sym same.1) others in
    let rests = one_output setting then cs rest last here there behind moved in
    (is ∙ ap (λ l. l ++ rest) same.0 ∙ ap (λ l. more ++ l) rests.0 ∙ sym it, rests.1)

-- ---- the edits

edits_by : (edits : List AnEdit) (e : AnEdit) (now next : Progress) (why : Option EditFault) (line : List ℕ) → now.edits ≡ edits → IsEdit now e why line next → next.edits ≡ option_map_or (λ why. edits) why (edits ++ e ∷ [])
edits_by edits e now next None line is p = ap (λ (n : Progress). n.edits) p.1 ∙ ap (λ l. l ++ e ∷ []) is
edits_by edits e now next (Some why) line is p = ap (λ (n : Progress). n.edits) p.1 ∙ is

edits_published : (setting : Setting) (now : Progress) (room : Bool) (line : List ℕ) (next : Progress) → IsPublish setting now room line next → next.edits ≡ now.edits
edits_published setting now true line next p = ap (λ (n : Progress). n.edits) p.0.1
edits_published setting now false line next p = ap (λ (n : Progress). n.edits) p.1

edits_stepped : (setting : Setting) (now : Progress) (asks : Asking) (line : List ℕ) (next : Progress) → IsStep setting now asks line next → next.edits ≡ edits_with setting.topo now.edits asks
unfolding IsStep
edits_stepped setting now (an_edit e) line next p = edits_by now.edits e now next (refusal (length now.edits) (inputs_after setting.topo now.edits) e) line refl p
edits_stepped setting now (no_fragment fault) line next p = ap (λ (n : Progress). n.edits) p.1
edits_stepped setting now a_report line next p = edits_published setting now (nat_lt now.reports most_versions) line next p

pub runs_keep_edits : RunsKeepEdits
runs_keep_edits setting now [] text next p = ap (λ (n : Progress). n.edits) p.1
runs_keep_edits setting now (c ∷ cs) text next (line, rest, then, step, behind, is) =
    runs_keep_edits setting then cs rest next behind ∙ ap (λ es. accepted setting.topo es cs) (edits_stepped setting now (asked c) line then step)

-- ---- one command more

pub output_more : (setting : Setting) (now : Progress) (cs : List Command) (text : List ℕ) (then : Progress) (c : Command) (line : List ℕ) (next : Progress)
    → IsOutput setting now cs text then → IsStep setting then (asked c) line next → IsOutput setting now (cs ++ c ∷ []) (text ++ line) next
output_more setting now [] text then c line next p step =
    let here : IsStep setting now (asked c) line next = subst (λ n. IsStep setting n (asked c) line next) p.1 step in
    (line, [], next, here, (refl, refl), ap (λ l. l ++ line) p.0 ∙ sym (append-nil line))
output_more setting now (d ∷ cs) text then c line next (first, rest, mid, one, behind, is) step =
    (first, rest ++ line, mid, one, output_more setting mid cs rest then c line next behind step, ap (λ l. l ++ line) is ∙ append_assoc first rest line)
