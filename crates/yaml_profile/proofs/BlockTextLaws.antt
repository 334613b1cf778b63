-- The lines of block scalars, one by one.
use Rattle.std.proofs.Common.{◌≡◌, ℕ, ◌+◌, ◌-◌, ◌<◌, suc, List, ◌∷◌, length, drop, get_or, refl, ap, arith, add-one, drop-cons}
use Rattle.yaml_profile.specs.BlockText.{BlockText, feed_each, more_spaces, go_on}

pub feed_drop : (xs : List ℕ) (i : ℕ) → i < length xs → feed_each (drop i xs) ≡ 10 ∷ feed_each (drop (i + 1) xs)
feed_drop xs i h =
    let e : drop i xs ≡ get_or xs i 0 ∷ drop (i + 1) xs = rw (add-one, drop-cons xs i 0) refl in ap feed_each e

pub one_space : (b : BlockText) (m n : ℕ) → m ≡ suc n → more_spaces b m ≡ more_spaces (go_on b 32) n
one_space b m n e = rw e refl

pub more_left : (b : BlockText) (count i : ℕ) → i < count → more_spaces b (count - i) ≡ more_spaces (go_on b 32) (count - (i + 1))
more_left b count i h = one_space b (count - i) (count - (i + 1)) (omega arith)
