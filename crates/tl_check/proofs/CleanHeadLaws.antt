-- Heads that break no rule of their link's own.
use Rattle.std.proofs.Common.{◌≡◌, ℕ, true, List, [], ◌++◌, append-nil, Option, None, sym, ap, ◌∙◌}
use Rattle.std.specs.Prelude.{filter, map}
use Rattle.tl_tables.specs.declared.Op.{Op}
use Rattle.tl_topology.specs.Regions.{Area}
use Rattle.tl_topology.specs.declared.LinkDecl.{LinkDecl}
use Rattle.tl_beats.specs.declared.Placed.{Placed}
use Rattle.tl_beats.specs.declared.Request.{Request}
use Rattle.tl_beats.specs.declared.Row.{Row}
use Rattle.tl_definitions.specs.Breaks.{row_of}
use Rattle.tl_definitions.specs.LinkPasses.{LinkSnapshot, link_rules}
use Rattle.tl_definitions.specs.Rules.{format_rules}
use Rattle.tl_link_rules.specs.Flow.{rules_in}
use Rattle.tl_check.specs.CleanHeads.{IsClean}
use Rattle.tl_check.specs.Apart.{one_link}
use Rattle.tl_check.specs.Requests.{is_plain, breaks_open, open_order}
use Rattle.tl_check.proofs.PlainLaws.{flow_is_open, as_plain}
use Rattle.tl_check.proofs.PlainLinkLaws.{head_rows}

-- A clean head has no rows.
pub clean_rows : (decl : LinkDecl) (exponent : ℕ) (areas : List Area) (s : LinkSnapshot) (p : Placed) (request : Option Request) (o : Op) (rows : List Row)
    → s.burst p.beat.chan ≡ None → IsClean decl areas p.beat request o → is_plain o ≡ true → request ≡ s.past.flow.source p.beat.source
    → rows ≡ rows ++ map (row_of p) (link_rules (one_link decl exponent areas) s p)
clean_rows decl exponent areas s p request o rows free clean plain is =
    head_rows decl exponent areas s p [] [] rows rows rows free
    (sym (ap (format_rules exponent areas decl p.beat) clean.message ∙ clean.format exponent))
    (sym (ap (rules_in s.past.flow p.beat) clean.message ∙ flow_is_open s.past.flow p.beat o plain ∙ ap (λ r. filter (breaks_open r o p.beat) open_order) (sym is) ∙ clean.flow))
    (as_plain decl p.beat o clean.message plain) (sym (append-nil rows)) (sym (append-nil rows))
