use Rattle.std.proofs.Common.{rules, Bor, List, ℕ, ◌≡◌, subst, ◌∙◌, ap, map}
use Rattle.std.specs.Ordering.{is_lt}
use Rattle.std.specs.List.{IsAllAdjacentAnswer}
use Rattle.std.proofs.lemmas.List.Sorted.{answers_always}
use Rattle.c_macro.specs.Directive.{all_differ}
use Rattle.c_macro.proofs.ApartLaws.{by, differ_from_sorted}
use Rattle.c_macro.proofs.directive.all_differ.Goals as goal

pub returns : goal.returns
returns c =
    let text : Bor (List ℕ) → List ℕ = λ b. b.now in
    let adjacent = c.is_sorted_by.ensures.cases (λ x y. is_lt (by text x y)) (answers_always _ _ _ (λ f a r q k. search rules)) in
    let P : List (Bor (List ℕ)) → Type 0 = λ ys. IsAllAdjacentAnswer (λ x y b. b ≡ is_lt (by text x y)) ys c.is_sorted_by.result in
    let e : c.is_sorted_by.result ≡ all_differ (map text c.in_ok-sorted.sorted.items)
    = differ_from_sorted text c.in_ok-sorted.sorted.items c.sort_unstable.new.self.items c.is_sorted_by.result c.sort_unstable.ensures.permutation c.sort_unstable.ensures.sorted (subst P c.deref.ensures.value adjacent) in
    e ∙ ap all_differ c.in_ok-sorted.ensures
