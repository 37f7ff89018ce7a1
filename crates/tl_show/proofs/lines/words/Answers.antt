use Rattle.std.proofs.Common.{sym, ap, ◌∙◌}
use Rattle.std.specs.Option.{option_copied}
use Rattle.tl_definitions.specs.Heads.{message_of}
use Rattle.tl_rows.proofs.ManagerLaws.{declared}
use Rattle.tl_rows.specs.Words.{beat_text_of}
use Rattle.tl_show.specs.Lines.{words_of}
use Rattle.tl_show.proofs.Texts.{in_words}
use Rattle.tl_show.proofs.lines.words.Goals as goal

pub returns : goal.returns
returns c =
    let p = c.args.place.now in
    let is = declared c.args.topo.now p.link c.unwrap-decl.result.now (sym (ap option_copied c.unwrap-decl.ensures) ∙ c.link.ensures.exact) in
    in_words c.beat_text.result _ (words_of c.args.topo.now p) c.beat_text.ensures
    (ap (λ found. beat_text_of found p.beat) (c.op_of-found.ensures ∙ ap (λ d. message_of d p.beat) (sym is)))
