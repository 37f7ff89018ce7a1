use Rattle.std.proofs.Common.{◌≡◌, ℕ, ◌==◌, ◌++◌, ◌<◌, ◌+◌, cond, true, false, List, [], ◌∷◌, Some, Vec, length, take, append-nil, sym, ap, ◌∙◌, arith}
use Rattle.std.specs.List.{slice_get}
use Rattle.std.proofs.lemmas.Bool.Decides.{nat_tests}
use Rattle.std.proofs.lemmas.Option.{slice_get-map}
use Rattle.tl_topology.specs.declared.LinkDecl.{LinkDecl}
use Rattle.tl_definitions.specs.Positions.{clients_from}
use Rattle.tl_definitions.specs.Managers.{declared_links}
use Rattle.tl_client_rules.proofs.ManagerLaws.{one_more}
use Rattle.tl_client_rules.proofs.clients.clients_of.Goals as goal
use Rattle.tl_client_rules.proofs.clients.clients_of.Goals.{in-Some+then-link-manager+in_ok-push, in-Some+else-link-manager, in_default}

-- The links tried with one more, of which it is known whether it is the manager's.
tried : (manager n : ℕ) (links : List LinkDecl) (link : LinkDecl) (own : List ℕ) → slice_get links n ≡ Some link → own ≡ cond (link.manager == manager) (n ∷ []) []
    → clients_from manager 0 (take n links) ++ own ≡ clients_from manager 0 (take (n + 1) links)
tried manager n links link own found is =
    let place : n ≡ 0 + n = omega arith in
    ap (λ xs. clients_from manager 0 (take n links) ++ xs) (is ∙ ap (λ k. cond (link.manager == manager) (k ∷ []) []) place) ∙ sym (one_more manager 0 n links link found)

pub loop-number-preserved : goal.loop-number-preserved
loop-number-preserved c =
    let links = declared_links c.args.topo.now in
    let number = c.loop-number.number in
    elim c.match-link.branch [
      | in-Some+then-link-manager+in_ok-push w ↦ (let own : (w.in-Some.link.now.manager == c.args.manager) ≡ true = grind (arith, nat_tests, w.if-link-manager.true) in
          let found : slice_get links number ≡ Some w.in-Some.link.now = slice_get-map (λ p. p.1) c.args.topo.now.links number ∙ sym w.in-Some.ensures.exact in
          ap (λ (v : Vec ℕ _). v.items) w.clients-is ∙ w.in_ok-push.ensures.items ∙ ap (λ xs. xs ++ number ∷ []) c.loop-number.invariant
          ∙ tried c.args.manager number links w.in-Some.link.now (number ∷ []) found (sym (ap (λ b. cond b (number ∷ []) []) own)))
      | in-Some+else-link-manager w ↦ (let other : (w.in-Some.link.now.manager == c.args.manager) ≡ false = grind (arith, nat_tests, w.if-link-manager.false) in
          let found : slice_get links number ≡ Some w.in-Some.link.now = slice_get-map (λ p. p.1) c.args.topo.now.links number ∙ sym w.in-Some.ensures.exact in
          ap (λ (v : Vec ℕ _). v.items) w.clients-is ∙ c.loop-number.invariant ∙ sym (append-nil (clients_from c.args.manager 0 (take number links)))
          ∙ tried c.args.manager number links w.in-Some.link.now [] found (sym (ap (λ b. cond b (number ∷ []) []) other)))
      | in_default w ↦ (let within : number < length c.args.topo.now.links = omega (arith, c.loop-number-test.true, c.link_count-number-end.ensures.count) in
          let never : false ≡ true = w.in_default.ensures.found.1 within in cc)
    ]
