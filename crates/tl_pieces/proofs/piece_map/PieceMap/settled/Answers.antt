use Rattle.std.proofs.Common.{sym, subst, None}
use Rattle.tl_pieces.specs.Slots.{some_wanted}
use Rattle.tl_pieces.specs.Pieces.{IsSettled, HasNoneWanted, EachOwnerIsChained}
use Rattle.tl_pieces.specs.Marks.{shown}
use Rattle.tl_pieces.proofs.ChainLemmas.{chain_of}
use Rattle.tl_pieces.proofs.ShowLemmas.{rises_shown}
use Rattle.tl_pieces.proofs.SettleLemmas.{decides_not, settled_from, unwanted_from, none_wanted, none_marked}
use Rattle.tl_pieces.proofs.piece_map.PieceMap.settled.Goals as goal

pub returns-clause-settled : goal.returns-clause-settled
returns-clause-settled g c =
    let os = c.self.inside.openings in
    let es = c.self.inside.slots in
    decides_not c.none_wanted.result (some_wanted es) c.none_wanted.ensures.none
    (λ h. subst (IsSettled g.S.Same.same) c.self.view_is (settled_from g.S.Same.same os None es tt c.self.invariant h))
    (λ s. unwanted_from g.S.Same.same os None es c.self.invariant (subst (IsSettled g.S.Same.same) (sym c.self.view_is) s))

pub returns-clause-wanted : goal.returns-clause-wanted
returns-clause-wanted g c =
    let os = c.self.inside.openings in
    let es = c.self.inside.slots in
    decides_not c.none_wanted.result (some_wanted es) c.none_wanted.ensures.none
    (λ h. subst (HasNoneWanted g.S.Same.same) c.self.view_is (none_wanted g.S.Same.same os None es c.self.invariant h))
    (λ s. none_marked g.S.Same.same os None es c.self.invariant (subst (HasNoneWanted g.S.Same.same) (sym c.self.view_is) s))

pub returns-clause-chains : goal.returns-clause-chains
returns-clause-chains g c =
    let os = c.self.inside.openings in
    let es = c.self.inside.slots in
    λ yes. subst (EachOwnerIsChained g.S.Same.same) c.self.view_is
    (λ o s is. chain_of g.S.Same.same os o s None (shown es) (rises_shown es c.none_wanted.ensures.order) tt
    ((decides_not c.none_wanted.result (some_wanted es) c.none_wanted.ensures.none (settled_from g.S.Same.same os None es tt c.self.invariant) (unwanted_from g.S.Same.same os None es c.self.invariant)).0 yes) is)
