use Rattle.std.proofs.Common.{◌≡◌, ℕ, subst}
use Rattle.std.specs.Prelude.{IfSome}
use Rattle.tl_apart.specs.Apart.{manager_of}
use Rattle.tl_apart.specs.LinkJudge.{Shows}
use Rattle.tl_apart.specs.Told.{bare}
use Rattle.tl_check.specs.Apart.{opening}
use Rattle.tl_apart.proofs.OpeningLaws.{opened_more}
use Rattle.tl_apart.proofs.apart.opened.Goals as goal

pub loop-link-preserved : goal.loop-link-preserved
loop-link-preserved c =
    let topo = c.args.topo.now in
    let link : ℕ = c.loop-link.link in
    let exact : c.unwrap-exponent.result ≡ (bare topo (manager_of topo link)).exponent = subst (λ o. IfSome o (λ e. e ≡ (bare topo (manager_of topo link)).exponent)) c.unwrap-exponent.ensures c.block_of.ensures.exact in
    opened_more topo link c.loop-link.feeds.items c.push.new.self.items c.new.result c.loop-link.invariant c.in_ok-push.ensures.items
    (subst (λ e. Shows e c.new.result.judge (opening e)) exact c.new.ensures.shows) c.new.ensures.nothing
