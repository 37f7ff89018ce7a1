use Rattle.std.proofs.Common.{◌≡◌, ◌<◌, Some, length, sym, ap, ◌∙◌, arith}
use Rattle.std.proofs.lemmas.Bool.Decides.{nat_tests}
use Rattle.std.proofs.lemmas.Option.{slice_get-get_or}
use Rattle.tl_client_rules.proofs.ClientsLaws.{placed_at}
use Rattle.tl_client_rules.proofs.clients.is_at.Goals as goal

pub returns-in-Some : goal.returns-in-Some
returns-in-Some c = λ e.
    let numbers = c.args.numbers.now in
    let found = c.in-Some.ensures.lookup in
    let within : c.args.place < length numbers = grind (arith, nat_tests) in
    let is : c.in-Some.number.now ≡ c.args.link = grind (arith, nat_tests) in
    placed_at numbers c.args.link c.args.place c.requires (slice_get-get_or numbers c.args.place c.in-Some.number.now within ∙ ap Some (sym found.1 ∙ is))
