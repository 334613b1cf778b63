-- YAML values told apart by trees of numbers, as contracts ask of the data that they see.
use Rattle.std.specs.Prelude.{◌≡◌, ℕ, List}
use Rattle.std.proofs.Common.{ap, refl}
use Rattle.std.specs.Coded.{Coded, coded_ℕ, coded_ℤ, coded_bool, coded_list}
use base.Stored.{Gv, gnil, gnum, gcons}
use Rattle.edt_base.specs.YamlData.{Value, a_map, a_list, a_text, a_number, a_truth, null, other, Items, end, item, Pairs, last, pair}

abbrev pub code_text : List ℕ → Gv
code_text t = (coded_list coded_ℕ).code t

abbrev mutual
  pub code_value : Value → Gv
  code_value (a_map ps) = gcons (gnum 0) (code_pairs ps)
  code_value (a_list is) = gcons (gnum 1) (code_items is)
  code_value (a_text t) = gcons (gnum 2) (code_text t)
  code_value (a_number n) = gcons (gnum 3) (coded_ℤ.code n)
  code_value (a_truth b) = gcons (gnum 4) (coded_bool.code b)
  code_value null = gcons (gnum 5) gnil
  code_value other = gcons (gnum 6) gnil

  pub code_items : Items → Gv
  code_items end = gnil
  code_items (item v rest) = gcons (code_value v) (code_items rest)

  pub code_pairs : Pairs → Gv
  code_pairs last = gnil
  code_pairs (pair k v rest) = gcons (code_text k) (gcons (code_value v) (code_pairs rest))

mutual
  pub inj_value : (v w : Value) → code_value v ≡ code_value w → v ≡ w
  inj_value (a_map ps) (a_map qs) p = ap a_map (inj_pairs ps qs cc)
  inj_value (a_map ps) (a_list js) p = absurd cc
  inj_value (a_map ps) (a_text t) p = absurd cc
  inj_value (a_map ps) (a_number n) p = absurd cc
  inj_value (a_map ps) (a_truth c) p = absurd cc
  inj_value (a_map ps) null p = absurd cc
  inj_value (a_map ps) other p = absurd cc
  inj_value (a_list is) (a_map qs) p = absurd cc
  inj_value (a_list is) (a_list js) p = ap a_list (inj_items is js cc)
  inj_value (a_list is) (a_text t) p = absurd cc
  inj_value (a_list is) (a_number n) p = absurd cc
  inj_value (a_list is) (a_truth c) p = absurd cc
  inj_value (a_list is) null p = absurd cc
  inj_value (a_list is) other p = absurd cc
  inj_value (a_text s) (a_map qs) p = absurd cc
  inj_value (a_text s) (a_list js) p = absurd cc
  inj_value (a_text s) (a_text t) p = ap a_text ((coded_list coded_ℕ).inj s t cc)
  inj_value (a_text s) (a_number n) p = absurd cc
  inj_value (a_text s) (a_truth c) p = absurd cc
  inj_value (a_text s) null p = absurd cc
  inj_value (a_text s) other p = absurd cc
  inj_value (a_number m) (a_map qs) p = absurd cc
  inj_value (a_number m) (a_list js) p = absurd cc
  inj_value (a_number m) (a_text t) p = absurd cc
  inj_value (a_number m) (a_number n) p = ap a_number (coded_ℤ.inj m n cc)
  inj_value (a_number m) (a_truth c) p = absurd cc
  inj_value (a_number m) null p = absurd cc
  inj_value (a_number m) other p = absurd cc
  inj_value (a_truth b) (a_map qs) p = absurd cc
  inj_value (a_truth b) (a_list js) p = absurd cc
  inj_value (a_truth b) (a_text t) p = absurd cc
  inj_value (a_truth b) (a_number n) p = absurd cc
  inj_value (a_truth b) (a_truth c) p = ap a_truth (coded_bool.inj b c cc)
  inj_value (a_truth b) null p = absurd cc
  inj_value (a_truth b) other p = absurd cc
  inj_value null (a_map qs) p = absurd cc
  inj_value null (a_list js) p = absurd cc
  inj_value null (a_text t) p = absurd cc
  inj_value null (a_number n) p = absurd cc
  inj_value null (a_truth c) p = absurd cc
  inj_value null null p = refl
  inj_value null other p = absurd cc
  inj_value other (a_map qs) p = absurd cc
  inj_value other (a_list js) p = absurd cc
  inj_value other (a_text t) p = absurd cc
  inj_value other (a_number n) p = absurd cc
  inj_value other (a_truth c) p = absurd cc
  inj_value other null p = absurd cc
  inj_value other other p = refl

  pub inj_items : (xs ys : Items) → code_items xs ≡ code_items ys → xs ≡ ys
  inj_items end end p = refl
  inj_items end (item v r) p = absurd cc
  inj_items (item v r) end p = absurd cc
  inj_items (item v r) (item w s) p =
      let first : v ≡ w = inj_value v w cc in
      let rest : r ≡ s = inj_items r s cc in cc

  pub inj_pairs : (xs ys : Pairs) → code_pairs xs ≡ code_pairs ys → xs ≡ ys
  inj_pairs last last p = refl
  inj_pairs last (pair k v r) p = absurd cc
  inj_pairs (pair k v r) last p = absurd cc
  inj_pairs (pair k v r) (pair l w s) p =
      let name : k ≡ l = (coded_list coded_ℕ).inj k l cc in
      let first : v ≡ w = inj_value v w cc in
      let rest : r ≡ s = inj_pairs r s cc in cc

abbrev pub coded_value : Coded Value
coded_value = record { code = code_value; inj = inj_value }

-- the same type, under another name
abbrev pub YamlValue : Type 0
YamlValue = Value
