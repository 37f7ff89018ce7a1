use Rattle.std.proofs.Common.{◌≡◌, None, refl, rules}
use Rattle.tl_check.proofs.Texts.{in_words}
use Rattle.tl_script.specs.Replies.{refused_text}
use Rattle.tl_script.proofs.replies.refusal_line.Goals as goal

pub returns-in-None : goal.returns-in-None
unfolding refused_text
returns-in-None c =
    let none : c.args.number ≡ None = search rules in
    in_words c.format-in-None.result _ (refused_text c.args.code c.args.number) c.format-in-None.ensures.ok (rw (none) refl)
