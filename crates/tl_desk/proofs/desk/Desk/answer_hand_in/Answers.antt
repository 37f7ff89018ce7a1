use Rattle.std.proofs.Common.{◌≡◌, Some, true, false, sym, ap, subst}
use Rattle.std.specs.Option.{option_and_then}
use Rattle.tl_desk.specs.Works as works
use Rattle.tl_desk.specs.Core.{Core}
use Rattle.tl_desk.specs.Plays.{AreOut, job_at, job_of}
use Rattle.tl_desk.proofs.PlayLemmas.{never_strange, out_handed_in}
use Rattle.tl_desk.proofs.desk.Desk.answer_hand_in.Goals as goal

pub unreachable-requires : goal.unreachable-requires
unreachable-requires g c =
    let is : job_at c.args.at c.args.places.now.items ≡ Some (works.job_of c.in-Some.done) = ap (option_and_then job_of) c.in-Some.ensures.some.0 in
    never_strange c.args.self.now c.hand_in.new.self c.in-Some.done c.in-Stranger._done (c.requires.each c.args.at (works.job_of c.in-Some.done) is) c.in-Stranger.ensures.back

pub returns-in-Taken-clause-out : goal.returns-in-Taken-clause-out
returns-in-Taken-clause-out g c =
    let old : Core = c.args.self.now in
    let new : Core = c.hand_in.new.self in
    let is : job_at c.args.at c.args.places.now.items ≡ Some (works.job_of c.in-Some.done) = ap (option_and_then job_of) c.in-Some.ensures.some.0 in
    subst (λ ps. AreOut ps new) (sym c.in-Some.ensures.some.1) (out_handed_in c.args.places.now.items c.args.at c.in-Some.done true old new is c.log.ensures.kept c.log.ensures.desk.boxes c.requires c.in-Taken.ensures.back)

pub returns-in-Void-clause-out : goal.returns-in-Void-clause-out
returns-in-Void-clause-out g c =
    let old : Core = c.args.self.now in
    let new : Core = c.hand_in.new.self in
    let is : job_at c.args.at c.args.places.now.items ≡ Some (works.job_of c.in-Some.done) = ap (option_and_then job_of) c.in-Some.ensures.some.0 in
    subst (λ ps. AreOut ps new) (sym c.in-Some.ensures.some.1) (out_handed_in c.args.places.now.items c.args.at c.in-Some.done false old new is c.log.ensures.kept c.log.ensures.desk.boxes c.requires c.in-Void.ensures.back)
