use Rattle.std.proofs.Common.{◌≡◌, true, false, sym, ◌∙◌, subst}
use Rattle.std.specs.Bool.{Decides}
use Rattle.tl_client_rules.specs.Settled.{SettledData, SamePerms}
use Rattle.tl_client_rules.proofs.SettledLaws.{same_perms, same_trunks, same_branches}
use Rattle.tl_client_rules.proofs.settled.Settled.is_same.Goals as goal

pub returns-then-is_same : goal.returns-then-is_same
returns-then-is_same c =
    let one : SettledData = record { trunks = c.self.inside.trunks; branches = c.self.inside.branches } in
    let two : SettledData = record { trunks = c.other.inside.trunks; branches = c.other.inside.branches } in
    subst (λ (a : SettledData). Decides c.is_same-then-is_same.result (SamePerms a c.args.other.now)) c.self.view_is
    (subst (λ (b : SettledData). Decides c.is_same-then-is_same.result (SamePerms one b)) c.other.view_is (
      (λ h. same_perms one two (c.is_same.ensures.0 c.if-is_same.true) (c.is_same-then-is_same.ensures.0 h)),
      (λ same. c.is_same-then-is_same.ensures.1 (same_branches one two c.self.invariant c.other.invariant same)),
    ))

pub returns-else-is_same : goal.returns-else-is_same
returns-else-is_same c =
    let one : SettledData = record { trunks = c.self.inside.trunks; branches = c.self.inside.branches } in
    let two : SettledData = record { trunks = c.other.inside.trunks; branches = c.other.inside.branches } in
    subst (λ (a : SettledData). Decides c.is_same.result (SamePerms a c.args.other.now)) c.self.view_is
    (subst (λ (b : SettledData). Decides c.is_same.result (SamePerms one b)) c.other.view_is (
      (λ h. let never : true ≡ false = sym h ∙ c.if-is_same.false in cc),
      (λ same. c.is_same.ensures.1 (same_trunks one two same)),
    ))
