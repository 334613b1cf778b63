-- How a phase goes over the nodes.
use Rattle.std.proofs.Common.{◌≡◌, ◌∙◌, ◌+◌, ◌<◌, ◌++◌, ◌∷◌, [], ℕ, List, Option, Some, None, Result, Ok, length, map, option_map, slice_get, refl, sym, ap}
use Rattle.std.specs.Result.{IsOk}
use Rattle.std.proofs.lemmas.List.{map-append}
use Rattle.std.proofs.lemmas.Option.{slice_get-map}
use Rattle.edt_base.specs.NodeData.{NodeData}
use Rattle.edt_base.specs.Nodes.{path_at}
use Rattle.edt_base.specs.Refusals.{IsRefused}
use Rattle.edt_base.specs.declared.fault.End.{End}
use Rattle.edt_base.specs.declared.fault.End.TheVariants as ending
use Rattle.edt_base.specs.declared.fault.Rule.{Rule}
use Rattle.dep_order.specs.Order.{IsEnd}
use Rattle.dep_order.specs.declared.ends.OrderEnd.{OrderEnd}
use Rattle.dep_order.specs.declared.ends.OrderEnd.TheVariants as stuck
use Rattle.edt_bound.specs.Ordering.{IsOrderRefused, IsStuckToldAs}
use Rattle.edt_bound.specs.Phases.{AreAnswers, IsPhaseEnd}
use Rattle.edt_bound.proofs.MatchSteps.{one_more, value_at}

-- one more node is asked, and breaks no rule
pub answer_more : {X : Type 0} (ask : ℕ → Result X Rule) (xs ys : List X) (x : X) (n : ℕ) → AreAnswers ask n xs → ask n ≡ Ok x
    → ys ≡ xs ++ x ∷ [] → AreAnswers ask (n + 1) ys
answer_more {X = X} ask xs ys x n h e added =
    one_more ask (map {B = Result X Rule} Ok xs) (map {B = Result X Rule} Ok ys) (Ok x) n h (sym e)
    (ap (map {B = Result X Rule} Ok) added ∙ map-append {B = Result X Rule} Ok xs (x ∷ []))

some_ok : {X : Type 0} (o : Option X) (r : Result X Rule) → option_map {U = Result X Rule} Ok o ≡ Some r → IsOk r
some_ok None r e = cc
some_ok {X = X} (Some x) r e = cc

-- an answer of a node that was asked is none of a broken rule
pub is_ok_before : {X : Type 0} (ask : ℕ → Result X Rule) (xs : List X) (n id : ℕ) → AreAnswers ask n xs → id < n → IsOk (ask id)
is_ok_before {X = X} ask xs n id h l =
    some_ok (slice_get xs id) (ask id)
    (sym (slice_get-map {B = Result X Rule} Ok xs id) ∙ ap (λ (rs : List (Result X Rule)). slice_get rs id) h ∙ value_at ask n id l)

-- a node is asked and breaks a rule
pub first_broken : {X : Type 0} (nodes : List NodeData) (ask : ℕ → Result X Rule) (xs : List X) (n : ℕ) (end : End)
    → AreAnswers ask n xs → n < length nodes → IsRefused (ask n) (path_at nodes n) end → IsPhaseEnd nodes ask end
first_broken nodes ask xs n (ending.Fault f) h l r = record {
  node = n;
  is_at = record { there = l; is_rule = refl; is_place = r.1 };
  broken = r.0;
  before = λ id less. is_ok_before ask xs n id h less;
}
first_broken nodes ask xs n (ending.Memory e) h l r = tt

-- there is no order
pub order_refused : (nodes : List NodeData) (needs : List (List ℕ)) (end : OrderEnd) (e : End) → IsEnd needs end → IsStuckToldAs nodes end e
    → IsOrderRefused nodes needs e
order_refused nodes needs (stuck.Cycle id) (ending.Fault f) s told = record { node = id; is_at = told; stuck = s }
order_refused nodes needs (stuck.Cycle id) (ending.Memory d) s told = tt
order_refused nodes needs (stuck.Memory m) (ending.Fault f) s told = absurd told
order_refused nodes needs (stuck.Memory m) (ending.Memory d) s told = tt
