-- Truth values, lists and equations: the names that most law files use, in one place to take them from. Assumes nothing.
pub use Rattle.std.specs.Prelude.{Bool, true, false, not, ◌&&◌, ◌||◌, List, [], ◌∷◌, ◌++◌, map, ◌⊎◌, ◌≢◌, ◌≡◌, refl}
pub use Rattle.std.proofs.Common.{true≢false, append-nil, append_assoc, ⊎_elim, inl, inr, sym, ap, ap₂, subst, ◌∙◌}
pub use Rattle.std.proofs.lemmas.Bool.{false≢true}
pub use Rattle.std.proofs.Math.Path.{subst⁻¹}
