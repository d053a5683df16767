-- Numbers with their tests, lists by place, and the laws of both: the names that most law files use, in one place to take them from.
-- Assumes nothing.
pub use Rattle.std.specs.Prelude.{ℕ, zero, suc, ◌+◌, ◌-◌, ◌*◌, ◌/◌, ◌%◌, ◌^◌, ◌<◌, ◌≤◌, min, max, eqb, leb, ltb, length, get_or, set, take, drop, replicate}
pub use Rattle.std.proofs.Common.{le_refl, le_trans, le_of_eq, le_of_suc-le-suc, not-suc-le-zero, eq-or-lt_of_le, add-zero, zero-add, add_assoc, mul-suc, mul-add, mul-zero, mul-le-mul, mul-le-mul_left, mul-le-mul_right, mod-lt, div-add-mod', div-mul-le_self, le-div_iff_mul-le, add-one, arith, eqb-true, leb-true, leb-false, ltb-true, ltb-false, eq-eqb, ne_eqb, le-leb, lt-ltb, le-ltb, length-append, length-drop, length-set, length-take, take-append-drop, drop_of_length-le, length-take-le, take_all, take-add, take_at, take-suc, take-take, drop_at, drop-cons, drop-drop, get_or-take, get_or-drop, get_or-set_same, get_or-set_other, get_or-append-add}
pub use Rattle.std.proofs.Math.Nat.{mul-sub, sub-zero, sub_self, suc-sub-suc, mul-mod_left, div-le_of_le-mul}
pub use Rattle.std.proofs.lemmas.Bool.{eqb-false, lt-leb, not-true, not-false}
pub use Rattle.std.proofs.lemmas.List.{length-map, length-replicate, get_or-replicate, drop-append-le, set_at, set-get_or, set_split}
pub use Rattle.std.proofs.Math.ListN.{get_or-map as List·getD-map, get_or-append as List·getD-append}
pub use Rattle.std.proofs.Math.Seq.{drop-length, drop-append-add, map-set_same}
