-- An entry that has all that another has is what they make, joined.
use Rattle.std.proofs.Common.{◌≡◌, ◌&&◌, refl, Bool, true, false, Option, Some, None}
use Rattle.bind_merge.specs.Levels.{EntryData}
use Rattle.bind_merge.specs.Options.{or_else}
use Rattle.bind_merge.specs.Covering.{covers, covers_all}
use Rattle.bind_merge.specs.Joining.{joined}

and-parts : (a b : Bool) → (a && b) ≡ true → (a ≡ true) × (b ≡ true)
and-parts true b e = (refl, e)
and-parts false b e = absurd cc

covered : {A : Type 0} (a b : Option A) → covers a b ≡ true → or_else a b ≡ a
covered (Some x) b e = refl
covered None None e = refl
covered None (Some y) e = absurd cc

pub joined_covered : (a b : EntryData) → covers_all a b ≡ true → joined a b ≡ a
joined_covered a b e =
    let h8 = and-parts _ (covers a.cells b.cells) e in
    let h7 = and-parts _ (covers a.space b.space) h8.0 in
    let h6 = and-parts _ (covers a.choices b.choices) h7.0 in
    let h5 = and-parts _ (covers a.constant b.constant) h6.0 in
    let h4 = and-parts _ (covers a.default b.default) h5.0 in
    let h3 = and-parts _ (covers a.deprecated b.deprecated) h4.0 in
    let h2 = and-parts (covers a.ty b.ty) (covers a.required b.required) h3.0 in
    λ i. record {
      name = a.name;
      ty = covered a.ty b.ty h2.0 i;
      required = covered a.required b.required h2.1 i;
      deprecated = covered a.deprecated b.deprecated h3.1 i;
      default = covered a.default b.default h4.1 i;
      constant = covered a.constant b.constant h5.1 i;
      choices = covered a.choices b.choices h6.1 i;
      space = covered a.space b.space h7.1 i;
      cells = covered a.cells b.cells h8.1 i;
    }
