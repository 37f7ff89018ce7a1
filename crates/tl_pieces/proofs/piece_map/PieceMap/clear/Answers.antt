use Rattle.std.proofs.Common.{◌≡◌, ◌∙◌, ap, sym, subst, rules, length, ◌<◌, Some, None}
use Rattle.std.specs.BTreeMap.{is_at}
use Rattle.std.specs.Map.{remove_entry}
use Rattle.tl_pieces.specs.Keys.{key_cmp, first_key, owned_by, without}
use Rattle.tl_pieces.specs.Pieces.{with_pieces}
use Rattle.tl_pieces.proofs.OwnerLemmas.{first_there, own_of, without_removed, without_none, shorter}
use Rattle.tl_pieces.proofs.TouchedLemmas.{carried}
use Rattle.tl_pieces.proofs.piece_map.PieceMap.clear.Goals as goal

pub remove-requires : goal.remove-requires
remove-requires g c =
    let first : first_key (owned_by c.args.owner c.loop-key.self.pieces) ≡ Some c.in-Some.key = search rules in
    first_there c.args.owner c.loop-key.self.pieces c.in-Some.key first

pub loop-key-smaller : goal.loop-key-smaller
loop-key-smaller g c =
    let es = c.loop-key.self.pieces in
    let first : first_key (owned_by c.args.owner es) ≡ Some c.in-Some.key = search rules in
    let is : c.remove.new.self.pieces ≡ remove_entry (is_at (key_cmp c.in-Some.key)) es = ap (λ b. b.pieces) c.remove.ensures in
    subst (λ t. length t < length es) (sym is) (shorter c.in-Some.key es (first_there c.args.owner es c.in-Some.key first))

pub loop-key-preserved : goal.loop-key-preserved
loop-key-preserved g c =
    let es = c.loop-key.self.pieces in
    let k = c.in-Some.key in
    let first : first_key (owned_by c.args.owner es) ≡ Some k = search rules in
    record {
      kept = carried c.args.self.now c.loop-key.self c.remove.new.self (remove_entry (is_at (key_cmp k)) es) c.loop-key.invariant.kept c.remove.ensures;
      others = ap (λ b. without c.args.owner b.pieces) c.remove.ensures ∙ without_removed c.args.owner k es (own_of c.args.owner es k first) ∙ c.loop-key.invariant.others;
    }

pub returns : goal.returns
returns g c =
    let es = c.loop-key.self.pieces in
    let first : first_key (owned_by c.args.owner es) ≡ None = search rules in
    c.loop-key.invariant.kept ∙ ap (with_pieces c.args.self.now) (sym (without_none c.args.owner es first) ∙ c.loop-key.invariant.others)
