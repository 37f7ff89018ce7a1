-- What holds where a call succeeds.
use Rattle.std.specs.Prelude.{Result, Ok, Err, OnOk}

pub on_ok : {X E : Type 0} {A B : Type 0} (r : Result X E) → (A → B) → OnOk r A → OnOk r B
on_ok (Ok x) f a = f a
on_ok (Err e) f a = tt

pub whatever : {X E : Type 0} {A : Type 0} (r : Result X E) → A → OnOk r A
whatever (Ok x) a = a
whatever (Err e) a = tt
