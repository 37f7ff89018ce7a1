use Rattle.std.proofs.Common.{ℕ, [], refl}
use Rattle.tl_check.specs.Apart.{opening}
use Rattle.tl_apart.specs.Told.{bare}
use Rattle.tl_pass.proofs.solo.Left.nothing.Goals as goal

pub returns-then-has_no_caches : goal.returns-then-has_no_caches
returns-then-has_no_caches c link =
    let exponent : ℕ = (bare c.args.topo.now c.args.manager).exponent in
    (c.has_no_caches.ensures c.if-has_no_caches.true, c.new.ensures.formed, opening exponent, c.new.ensures.shows exponent, (refl, refl))

pub returns-in_ok-opening : goal.returns-in_ok-opening
returns-in_ok-opening c link = let stands = c.in_ok-opening.ensures [] in (stands.is_of, (stands.shows, refl))
