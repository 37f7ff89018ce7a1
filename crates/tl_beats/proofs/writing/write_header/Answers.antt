use Rattle.std.proofs.Common.{◌≡◌, [], ◌++◌, ap, subst, ◌∙◌}
use Rattle.std.specs.Prelude.{codes}
use Rattle.tl_text.specs.Written.{Writes}
use Rattle.tl_text.proofs.Writes.{nothing, more, fell, ends}
use Rattle.tl_text.specs.Words.{ended}
use Rattle.tl_beats.specs.Fragments.{Frag}
use Rattle.tl_beats.specs.Text.{header_text}
use Rattle.tl_beats.proofs.TextParts.{header_parts, header_ends}
use Rattle.tl_beats.proofs.writing.write_header.Goals as goal

pub returns-in_err-write_all : goal.returns-in_err-write_all
returns-in_err-write_all g c =
    let contents = g.O.ByteOut.contents in
    let count = g.O.ByteOut.failure_count in
    let s = c.args.out.now in
    fell contents count [] (codes "fragment ") _ _ s s c.write_all.new.out c.from_residual.result c.from_residual.ensures.0 (header_parts c.args.fragment.now) (nothing contents count s) c.in_err-write_all.ensures.err

pub returns-in_err-write_all-2 : goal.returns-in_err-write_all-2
returns-in_err-write_all-2 g c =
    let contents = g.O.ByteOut.contents in
    let count = g.O.ByteOut.failure_count in
    let s = c.args.out.now in
    let f = c.args.fragment.now in
    let link : c.as_bytes.result.now ≡ f.link = c.as_bytes.ensures ∙ ap (λ (x : Frag). x.link) c.fragment.view_is in
    fell contents count (codes "fragment ") f.link _ _ s c.write_all.new.out c.write_all-2.new.out c.from_residual-in_err-write_all-2.result c.from_residual-in_err-write_all-2.ensures.0 (header_parts f) c.in_ok-write_all.ensures.ok (rw link at c.in_err-write_all-2.ensures.err)

pub returns-in_err-write_all-3 : goal.returns-in_err-write_all-3
returns-in_err-write_all-3 g c =
    let contents = g.O.ByteOut.contents in
    let count = g.O.ByteOut.failure_count in
    let s = c.args.out.now in
    let f = c.args.fragment.now in
    let link : c.as_bytes.result.now ≡ f.link = c.as_bytes.ensures ∙ ap (λ (x : Frag). x.link) c.fragment.view_is in
    let front = more contents count (codes "fragment ") f.link s c.write_all.new.out c.write_all-2.new.out c.in_ok-write_all.ensures.ok (rw link at c.in_ok-write_all-2.ensures.ok) in
    fell contents count (codes "fragment " ++ f.link) (codes " ") _ _ s c.write_all-2.new.out c.write_all-3.new.out c.from_residual-in_err-write_all-3.result c.from_residual-in_err-write_all-3.ensures.0 (header_parts f) front c.in_err-write_all-3.ensures.err

pub returns : goal.returns
returns g c =
    let contents = g.O.ByteOut.contents in
    let count = g.O.ByteOut.failure_count in
    let s = c.args.out.now in
    let i = c.fragment.inside in
    let f : Frag = record { link = i.link; number = i.number; first = i.first; last = i.last; beats = i.beats.items } in
    let front = more contents count (codes "fragment ") f.link s c.write_all.new.out c.write_all-2.new.out c.in_ok-write_all.ensures.ok (rw c.as_bytes.ensures at c.in_ok-write_all-2.ensures.ok) in
    let spaced = more contents count (codes "fragment " ++ f.link) (codes " ") s c.write_all-2.new.out c.write_all-3.new.out front c.in_ok-write_all-3.ensures.ok in
    subst (λ (x : Frag). Writes (ended (header_text x)) (contents s) (contents c.write_words.new.out) (count s) (count c.write_words.new.out) c.write_words.result) c.fragment.view_is
    (ends contents count ((codes "fragment " ++ f.link) ++ codes " ") _ _ s c.write_all-3.new.out c.write_words.new.out c.write_words.result (header_ends f) spaced (rw c.from.ensures at c.write_words.ensures))
