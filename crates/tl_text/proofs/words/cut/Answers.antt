use Rattle.std.proofs.Common.{arith, None, sym, ◌∙◌}
use Rattle.std.proofs.lemmas.List.{take_all}
use Rattle.std.proofs.lemmas.Grind.{common_steps}
use Rattle.tl_text.proofs.Cuts.{cut_found}
use Rattle.tl_text.proofs.words.cut.Goals as goal

pub returns-in-Some : goal.returns-in-Some
returns-in-Some c stop found =
    let cut = cut_found stop c.args.bytes.now _ (sym c.in-Some.is ∙ found) in
    grind (arith, common_steps, take_all, cut)

pub returns-in-None : goal.returns-in-None
returns-in-None c stop found = sym (cut_found stop c.args.bytes.now None (sym c.in-None.is ∙ found))
