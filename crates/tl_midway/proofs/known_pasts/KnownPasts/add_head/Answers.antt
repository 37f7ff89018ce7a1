use Rattle.std.proofs.Common.{◌≡◌, List, Some, ◌++◌, map, append-nil, refl, sym, ap, ◌∙◌}
use Rattle.tl_tables.specs.declared.Rule.{Rule}
use Rattle.tl_topology.specs.Regions.{areas_of}
use Rattle.tl_definitions.specs.Breaks.{row_of}
use Rattle.tl_definitions.specs.Heads.{message_of}
use Rattle.tl_definitions.specs.Rules.{format_rules}
use Rattle.tl_midway.proofs.Results.{on_ok}
use Rattle.tl_midway.proofs.HeadRowLaws.{with_message, without_message}
use Rattle.tl_midway.proofs.known_pasts.KnownPasts.add_head.Goals as goal
use Rattle.tl_midway.proofs.known_pasts.KnownPasts.add_head.Goals.{then-not-keeps_format+in_ok-add_format-in-Some, else-not-keeps_format}

pub returns-after-not-keeps_format : goal.returns-after-not-keeps_format
returns-after-not-keeps_format c m start before stands begins regions =
    let p = c.args.at.now in
    let link = c.args.link.now in
    let areas = areas_of c.args.regions.now in
    let first = c.args.rows.now.items in
    let format : List Rule = format_rules c.args.self.now.exponent areas link p.beat (message_of link p.beat) in
    let message : message_of link p.beat ≡ Some c.in-Some.op = sym c.op_of.ensures ∙ c.in-Some.is in
    let put : c.if-not-keeps_format.rows.items ≡ first ++ map (row_of p) format = elim c.if-not-keeps_format.branch [
      | then-not-keeps_format+in_ok-add_format-in-Some w ↦ ap (λ rows. rows.items) w.rows-is ∙ w.in_ok-add_format-in-Some.ensures
      | else-not-keeps_format w ↦ ap (λ rows. rows.items) w.rows-is ∙ sym (append-nil first)
          ∙ ap (λ rules. first ++ map (row_of p) rules) (sym (ap (format_rules c.args.self.now.exponent areas link p.beat) message ∙ c.keeps_format.ensures w.if-not-keeps_format.false))
    ] in
    on_ok c.add_message.result
    (with_message m start before p link c.args.self.now.exponent areas format begins stands.exponent regions refl c.in-Some.op first c.if-not-keeps_format.rows.items c.add_message.new.rows.items message put)
    (c.add_message.ensures m start before stands)

pub returns-in-None : goal.returns-in-None
returns-in-None c m start before stands begins regions =
    let p = c.args.at.now in
    let link = c.args.link.now in
    let areas = areas_of c.args.regions.now in
    on_ok c.add_format-in-None.result
    (without_message m start before p link c.args.self.now.exponent areas (format_rules c.args.self.now.exponent areas link p.beat (message_of link p.beat)) begins stands.exponent regions refl
    c.args.rows.now.items c.add_format-in-None.new.rows.items (sym c.op_of.ensures ∙ c.in-None.is))
    c.add_format-in-None.ensures
