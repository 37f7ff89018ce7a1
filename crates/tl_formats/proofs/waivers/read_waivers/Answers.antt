use Rattle.std.proofs.Common.{◌≡◌, ◌+◌, suc, length, rules, arith, sym, ap, ◌∙◌}
use Rattle.std.proofs.lemmas.Result.{err_from_is_err_and}
use Rattle.tl_text.specs.Words.{lines_of}
use Rattle.tl_formats.specs.Waivers.{waivers_from}
use Rattle.tl_formats.proofs.Lines.{no_line, goes_on, fails, shorter}
use Rattle.tl_formats.proofs.waivers.read_waivers.Goals as goal

pub returns : goal.returns
returns c = sym c.loop-next.invariant.read ∙ no_line c.args.topo.now c.loop-next.waivers.items c.loop-next.number (lines_of c.loop-next.rest.now) (search rules)

pub returns-in_err-found : goal.returns-in_err-found
returns-in_err-found c =
    let one = fails c.args.topo.now c.loop-next.waivers.items c.loop-next.number (lines_of c.loop-next.rest.now) c.in-Some.next.now (lines_of c.in-Some.after.now) c.in_err-found.field-0.0 (search rules) (sym c.in_err-found.ensures) in
    let p = err_from_is_err_and c.from_residual.result c.from_residual.ensures.1 in
    rw (p.1, p.2) (λ m. sym c.loop-next.invariant.read ∙ one)

pub loop-next-preserved : goal.loop-next-preserved
loop-next-preserved c =
    let one = goes_on c.args.topo.now c.loop-next.waivers.items c.loop-next.number (lines_of c.loop-next.rest.now) c.in-Some.next.now (lines_of c.in-Some.after.now) c.in_ok-found.found (search rules) (sym c.in_ok-found.ensures) in
    let whole : length c.loop-next.rest.now ≡ length c.in-Some.next.now + suc (length c.in-Some.after.now) = shorter c.loop-next.rest.now c.in-Some.next.now c.in-Some.after.now (search rules) in
    record {
      read = ap (λ done. waivers_from c.args.topo.now done (c.loop-next.number + 1) (lines_of c.in-Some.after.now)) c.in_ok-push_found.ensures ∙ sym one ∙ c.loop-next.invariant.read;
      counted = omega (arith, whole, c.loop-next.invariant.counted);
    }
