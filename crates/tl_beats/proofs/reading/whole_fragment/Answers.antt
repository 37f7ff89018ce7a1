use Rattle.std.proofs.Common.{sym, ◌∙◌}
use Rattle.std.proofs.lemmas.Result.{err_from_is_err_and}
use Rattle.tl_text.specs.Words.{lines_of}
use Rattle.tl_beats.proofs.Whole.{nothing_behind, something_behind, whole_fails, whole_is, more_behind}
use Rattle.tl_beats.proofs.reading.whole_fragment.Goals as goal

pub returns-in_err-fragment-clause-exact : goal.returns-in_err-fragment-clause-exact
returns-in_err-fragment-clause-exact c =
    let p = err_from_is_err_and c.from_residual.result c.from_residual.ensures.1 in
    rw (p.1, p.2) (whole_fails (lines_of c.args.bytes.now) c.in_err-fragment.field-0.0 c.in_err-fragment.ensures.exact)

pub returns-then-is_empty-clause-exact : goal.returns-then-is_empty-clause-exact
returns-then-is_empty-clause-exact c =
    whole_is (lines_of c.args.bytes.now) (lines_of c.in_ok-fragment.rest.now) c.in_ok-fragment.fragment c.in_ok-fragment.ensures.exact
    (nothing_behind c.in_ok-fragment.rest.now (sym c.is_empty.ensures ∙ c.if-is_empty.true))

pub returns-else-is_empty-clause-exact : goal.returns-else-is_empty-clause-exact
returns-else-is_empty-clause-exact c here =
    rw c.beats.ensures.exact (more_behind (lines_of c.args.bytes.now) (lines_of c.in_ok-fragment.rest.now) c.in_ok-fragment.fragment c.in_ok-fragment.ensures.exact
    (something_behind c.in_ok-fragment.rest.now (sym c.is_empty.ensures ∙ c.if-is_empty.false)))
