-- The library's names that the proofs of all crates use, from one place.
pub use Prim.Native.Nat.{◌%◌, ◌*◌, ◌+◌, ◌-◌, ◌/◌, ◌<◌, ◌^◌, ◌≤◌, max, min, suc, zero, zero-le, ℕ}
pub use mathlib.Core.Path.{◌∙◌, ◌≡◌, ap, ap₂, fun_ext, refl, subst, sym}
pub use mathlib.Core.Logic.{◌≢◌, ◌⊎◌, inl, inr, ⊎_elim}
pub use mathlib.Core.Bool.{Bool, ◌&&◌, ◌||◌, cond, false, not, true}
pub use mathlib.Core.Option.{Option, none, some}
pub use mathlib.Core.List.{List, [], ◌++◌, ◌∷◌, append_assoc, append-nil, map, map-append, map-map}
pub use native.Mathlib.Nat.{add_assoc, add-suc, add-zero, div-le_self, le_of_suc-le-suc, le_refl, mod-eq_of_lt}
pub use native.Mathlib.Nat.{not-suc-le-zero, one-mul, pow-le-pow_right, pow-suc, sub-zero, suc-add, suc_inj}
pub use native.Mathlib.Nat.{suc-sub-suc, zero-add, zero-div, zero-sub}
pub use native.Mathlib.Decide.{dec_le, dec_lt, ℕ_discrete}
pub use native.Mathlib.Omega.{arith}
pub use lib.ListN.{get_or-append as List·getD-append, get_or-eq_default as List·getD-eq-default, get_or-map as List·getD-map, drop, drop_of_length-le, get_or, get_or-replicate}
pub use lib.ListN.{length, length-append, length-drop, length-map, length-replicate, length-set, length-take, replicate}
pub use lib.ListN.{set, take, take-append-drop}
pub use lib.Dec.{eqb, leb, le→leb, ltb}
pub use lib.Seq.{append_snoc, drop_at, drop-cons, drop-drop, drop-set-add, drop-set-lt, ext_get_or, get_or-append_seam}
pub use lib.Seq.{get_or-drop, get_or-set_other, get_or-set_same, get_or-take, length-take-le, paste, paste-suc, paste-zero}
pub use lib.Seq.{set-append_left, set_at, set-get_or, set_out, set-set, set_split, take-add, take_all, take-append-le}
pub use lib.Seq.{take-append_seam, take_at, take-length, take-nil, take-set-le, take-set-lt, take-suc, take-suc-set}
pub use lib.Seq.{take-take}
pub use borrow.Author.Rules.{rules}
pub use borrow.Author.Tests.{eq-eqb, eqb-false, eqb-true, le-leb, le-ltb, leb-false, leb-true, lt-leb, lt-ltb}
pub use borrow.Author.Tests.{ltb-false, ltb-true, ne_eqb, not-false, not-true}
