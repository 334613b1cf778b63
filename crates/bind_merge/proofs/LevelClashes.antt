-- Where two levels say two values of one key.
use Rattle.std.proofs.Common.{◌≡◌, ◌++◌, refl, subst, ℕ, zero, suc, ◌<◌, List, [], ◌∷◌, Option, Some, None, length, arith, get_or, set}
use Rattle.bind_merge.specs.Facts.{Fact, Says, buses, on_bus, of_space, of_prop}
use Rattle.bind_merge.specs.Levels.{LevelTable}
use Rattle.bind_merge.specs.Joining.{AgreeOn, ClashIn, ClashOf, JoinsLevel}
use Rattle.bind_merge.specs.Adding.{AddsAt, behind, onto, below, ClashAt}
use Rattle.bind_merge.specs.Ordered.{SaysAt}

buses-apart : (a b : LevelTable) (x y : Option (List (List ℕ))) → a.buses ≡ x → b.buses ≡ y → (AgreeOn x y → ⊥) → ClashOf a b
buses-apart a b None y ea eb h = absurd (h tt)
buses-apart a b (Some x) None ea eb h = absurd (h tt)
buses-apart a b (Some x) (Some y) ea eb h = record { one = buses x; other = buses y; says_one = ea; says_other = eb; clash = h }

pub buses-clash : (a b : LevelTable) → (AgreeOn a.buses b.buses → ⊥) → ClashOf a b
buses-clash a b h = buses-apart a b a.buses b.buses refl refl h

bus-apart : (a b : LevelTable) (x y : Option (List ℕ)) → a.on_bus ≡ x → b.on_bus ≡ y → (AgreeOn x y → ⊥) → ClashOf a b
bus-apart a b None y ea eb h = absurd (h tt)
bus-apart a b (Some x) None ea eb h = absurd (h tt)
bus-apart a b (Some x) (Some y) ea eb h = record { one = on_bus x; other = on_bus y; says_one = ea; says_other = eb; clash = h }

pub bus-clash : (a b : LevelTable) → (AgreeOn a.on_bus b.on_bus → ⊥) → ClashOf a b
bus-clash a b h = bus-apart a b a.on_bus b.on_bus refl refl h

pub spaces-clash : (a b : LevelTable) → ClashIn a.spaces b.spaces → ClashOf a b
spaces-clash a b c = record { one = of_space c.name c.one; other = of_space c.name c.other; says_one = c.given_one; says_other = c.given_other; clash = (refl, c.differ) }

pub props-clash : (a b : LevelTable) → ClashIn a.props b.props → ClashOf a b
props-clash a b c = record { one = of_prop c.name c.one; other = of_prop c.name c.other; says_one = c.given_one; says_other = c.given_other; clash = (refl, c.differ) }

-- a level comes behind the last, or onto the one at its place
pub adds-end : (ts : List LevelTable) (l : LevelTable) → AddsAt ts (length ts) l (ts ++ l ∷ [])
adds-end [] l = behind l
adds-end (t ∷ ts) l = below t ts (length ts) l (ts ++ l ∷ []) (adds-end ts l)

pub adds-onto : (ts : List LevelTable) (k : ℕ) (t l j : LevelTable) → k < length ts → t ≡ get_or ts k t → JoinsLevel t l j → AddsAt ts k l (set ts k j)
adds-onto [] k t l j h e g = absurd (omega arith)
adds-onto (a ∷ ts) zero t l j h e g = onto a ts l j (subst (λ x. JoinsLevel x l j) e g)
adds-onto (a ∷ ts) (suc k) t l j h e g = below a ts k l (set ts k j) (adds-onto ts k t l j (omega arith) e g)

says-here : (ts : List LevelTable) (k : ℕ) (t : LevelTable) (f : Fact) → k < length ts → t ≡ get_or ts k t → Says t f → SaysAt ts k f
says-here [] k t f h e s = absurd (omega arith)
says-here (a ∷ ts) zero t f h e s = subst (λ x. Says x f) e s
says-here (a ∷ ts) (suc k) t f h e s = says-here ts k t f (omega arith) e s

pub clash-at : (ts : List LevelTable) (k : ℕ) (t l : LevelTable) → k < length ts → t ≡ get_or ts k t → ClashOf t l → ClashAt ts k l
clash-at ts k t l h e c = record { one = c.one; other = c.other; says_one = says-here ts k t c.one h e c.says_one; says_other = c.says_other; clash = c.clash }
