use Rattle.std.proofs.Common.{◌≡◌, refl, sym, ap, subst, ◌∙◌}
use Rattle.tl_desk.specs.Works.{job_of}
use Rattle.tl_desk.specs.Plays.{AreOut, with_place}
use Rattle.tl_desk.specs.declared.places.Place.TheVariants as place
use Rattle.tl_desk.proofs.PlayLemmas.{out_worked, set_twice}
use Rattle.tl_desk.proofs.places.work_at.Goals as goal

pub returns-in-Ok-clause-answers : goal.returns-in-Ok-clause-answers
returns-in-Ok-clause-answers g c =
    let at = c.args.at in
    let done = c.in-Ok.done in (
      c.in-Some.job,
      done,
      c.in-Some.ensures.some.0,
      c.in-Ok.ensures.ok,
      c.in-Ok.ensures.pass,
      c.fill.ensures.filled ∙ ap (with_place at (place.Done done)) c.in-Some.ensures.some.1 ∙ set_twice c.args.places.now.items at place.Empty (place.Done done),
    )

pub returns-in-Ok-clause-out : goal.returns-in-Ok-clause-out
returns-in-Ok-clause-out g c = λ core are. (
    let at = c.args.at in
    let done = c.in-Ok.done in
    let filled : c.fill.new.places.items ≡ with_place at (place.Done done) c.args.places.now.items =
    c.fill.ensures.filled ∙ ap (with_place at (place.Done done)) c.in-Some.ensures.some.1 ∙ set_twice c.args.places.now.items at place.Empty (place.Done done) in
    subst (λ xs. AreOut xs core) (sym filled) (out_worked c.args.places.now.items at c.in-Some.job (job_of done) (place.Done done) core c.in-Some.ensures.some.0 c.in-Ok.ensures.ok refl are))

pub returns-in-Err-clause-answers : goal.returns-in-Err-clause-answers
returns-in-Err-clause-answers g c =
    let at = c.args.at in
    let back = c.in-Err.job in (
      c.in-Some.job,
      back,
      c.in-Some.ensures.some.0,
      c.in-Err.ensures.err,
      c.fill-in-Err.ensures.filled ∙ ap (with_place at (place.Job back)) c.in-Some.ensures.some.1 ∙ set_twice c.args.places.now.items at place.Empty (place.Job back),
    )

pub returns-in-Err-clause-out : goal.returns-in-Err-clause-out
returns-in-Err-clause-out g c = λ core are. (
    let at = c.args.at in
    let back = c.in-Err.job in
    let filled : c.fill-in-Err.new.places.items ≡ with_place at (place.Job back) c.args.places.now.items =
    c.fill-in-Err.ensures.filled ∙ ap (with_place at (place.Job back)) c.in-Some.ensures.some.1 ∙ set_twice c.args.places.now.items at place.Empty (place.Job back) in
    subst (λ xs. AreOut xs core) (sym filled) (out_worked c.args.places.now.items at c.in-Some.job back (place.Job back) core c.in-Some.ensures.some.0 c.in-Err.ensures.err refl are))
