-- Equalities that tell requests, beats and rows apart.
use Rattle.std.specs.Prelude.{◌≡◌, ◌==◌, ◌&&◌, Bool}
use Rattle.std.proofs.Common.{ap}
use Rattle.std.specs.Bool.{Decides, beq}
use Rattle.std.specs.Cmp.{booleans_Decides}
use Rattle.std.specs.Option.{option_eq}
use Rattle.std.proofs.lemmas.Bool.Decides.{Decides-eqb, Decides-and, Decides-like}
use denote.Enum.Bare.{Bare, sameb, same_true, true_same}
use denote.Enum.Declared.{Declared}
use Rattle.tl_same.specs.Exact.{options_exact}
use Rattle.tl_tables.specs.contracts.Chan as chan
use Rattle.tl_tables.specs.contracts.Rule as rule
use Rattle.tl_tables.specs.declared.Op.{Op}
use Rattle.tl_beats.specs.declared.Beat.{Beat}
use Rattle.tl_beats.specs.declared.Request.{Request}
use Rattle.tl_beats.specs.declared.Row.{Row}

-- the equality of requests, from that of their first field
pub requests_exact : {E : Op → Op → Bool} → ((x y : Op) → Decides (E x y) (x ≡ y)) → (x y : Request)
    → Decides (E x.op y.op && ((x.param == y.param) && ((x.size == y.size) && ((x.source == y.source) && (x.address == y.address))))) (x ≡ y)
requests_exact {E} ops x y =
    Decides-like _ (λ h. λ i. record { op = h.0 i; param = h.1.0 i; size = h.1.1.0 i; source = h.1.1.1.0 i; address = h.1.1.1.1 i }) (λ e. (ap (λ (r : Request). r.op) e, (ap (λ (r : Request). r.param) e, (ap (λ (r : Request). r.size) e, (ap (λ (r : Request). r.source) e, ap (λ (r : Request). r.address) e)))))
    (Decides-and _ _ (ops x.op y.op) (Decides-and _ _ (Decides-eqb x.param y.param) (Decides-and _ _ (Decides-eqb x.size y.size) (Decides-and _ _ (Decides-eqb x.source y.source) (Decides-eqb x.address y.address)))))

-- an enum without fields, whose variants are compared by their tags
bare_exact : (D : Declared) → Bare D.parts → (x y : D.D) → Decides (sameb D x y) (x ≡ y)
bare_exact D bare x y = (same_true D bare x y, true_same D x y)

pub beats_exact : (x y : Beat)
    → Decides ((x.cycle == y.cycle) && (sameb chan.the_type x.chan y.chan && ((x.opcode == y.opcode) && ((x.param == y.param) && ((x.size == y.size)
    && ((x.source == y.source) && ((x.sink == y.sink) && ((x.address == y.address) && ((x.mask == y.mask) && (beq x.denied y.denied && beq x.corrupt y.corrupt)))))))))) (x ≡ y)
beats_exact x y =
    Decides-like _
    (λ h. λ i. record {
      cycle = h.0 i;
      chan = h.1.0 i;
      opcode = h.1.1.0 i;
      param = h.1.1.1.0 i;
      size = h.1.1.1.1.0 i;
      source = h.1.1.1.1.1.0 i;
      sink = h.1.1.1.1.1.1.0 i;
      address = h.1.1.1.1.1.1.1.0 i;
      mask = h.1.1.1.1.1.1.1.1.0 i;
      denied = h.1.1.1.1.1.1.1.1.1.0 i;
      corrupt = h.1.1.1.1.1.1.1.1.1.1 i;
    })
    (λ e. (ap (λ (b : Beat). b.cycle) e, (ap (λ (b : Beat). b.chan) e, (ap (λ (b : Beat). b.opcode) e, (ap (λ (b : Beat). b.param) e, (ap (λ (b : Beat). b.size) e, (ap (λ (b : Beat). b.source) e, (ap (λ (b : Beat). b.sink) e, (ap (λ (b : Beat). b.address) e, (ap (λ (b : Beat). b.mask) e, (ap (λ (b : Beat). b.denied) e, (ap (λ (b : Beat). b.corrupt) e))))))))))))
    (Decides-and _ _ (Decides-eqb x.cycle y.cycle) (Decides-and _ _ (bare_exact chan.the_type tt x.chan y.chan)
    (Decides-and _ _ (Decides-eqb x.opcode y.opcode) (Decides-and _ _ (Decides-eqb x.param y.param) (Decides-and _ _ (Decides-eqb x.size y.size)
    (Decides-and _ _ (Decides-eqb x.source y.source) (Decides-and _ _ (Decides-eqb x.sink y.sink) (Decides-and _ _ (Decides-eqb x.address y.address)
    (Decides-and _ _ (Decides-eqb x.mask y.mask) (Decides-and _ _ (booleans_Decides x.denied y.denied) (booleans_Decides x.corrupt y.corrupt)))))))))))

pub rows_exact : (x y : Row)
    → Decides ((x.link == y.link) && ((x.cycle == y.cycle) && (sameb chan.the_type x.chan y.chan && (sameb rule.the_type x.rule y.rule
    && (option_eq (λ m n. m == n) x.monitor y.monitor && ((x.fragment == y.fragment) && (x.line == y.line))))))) (x ≡ y)
rows_exact x y =
    Decides-like _
    (λ h. λ i. record { link = h.0 i; cycle = h.1.0 i; chan = h.1.1.0 i; rule = h.1.1.1.0 i; monitor = h.1.1.1.1.0 i; fragment = h.1.1.1.1.1.0 i; line = h.1.1.1.1.1.1 i })
    (λ e. (
      ap (λ (r : Row). r.link) e,
      (
        ap (λ (r : Row). r.cycle) e,
        (
          ap (λ (r : Row). r.chan) e,
          (
            ap (λ (r : Row). r.rule) e,
            (ap (λ (r : Row). r.monitor) e, (ap (λ (r : Row). r.fragment) e, ap (λ (r : Row). r.line) e)),
          ),
        ),
      ),
    ))
    (Decides-and _ _ (Decides-eqb x.link y.link) (Decides-and _ _ (Decides-eqb x.cycle y.cycle)
    (Decides-and _ _ (bare_exact chan.the_type tt x.chan y.chan) (Decides-and _ _ (bare_exact rule.the_type tt x.rule y.rule)
    (Decides-and _ _ (options_exact Decides-eqb x.monitor y.monitor)
    (Decides-and _ _ (Decides-eqb x.fragment y.fragment) (Decides-eqb x.line y.line)))))))
