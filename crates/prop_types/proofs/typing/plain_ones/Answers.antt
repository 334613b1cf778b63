use Rattle.std.proofs.Common.{◌≡◌, ◌∷◌, [], IfOk, List, Vec, Global, filter, map, subst}
use Rattle.prop_types.specs.Inner.Seen.{seen}
use Rattle.prop_types.specs.Typing.{DeclaredData, is_written, plain_ones}
use Rattle.prop_types.specs.declared.properties.Declared.{Declared}
use Rattle.prop_types.proofs.TypingLaws.{eight}
use Rattle.prop_types.proofs.typing.plain_ones.Goals as goal

pub returns : goal.returns
returns c =
    let ones = c.plain.result ∷ c.plain-2.result ∷ c.plain-3.result ∷ c.plain-4.result ∷ c.plain-5.result ∷ c.plain-6.result ∷ c.plain-7.result ∷ c.plain-8.result ∷ [] in
    let same : map seen ones ≡ plain_ones = eight _ _ _ _ _ _ _ _ _ _ _ _ _ _ _ _
    c.plain.ensures c.plain-2.ensures c.plain-3.ensures c.plain-4.ensures c.plain-5.ensures c.plain-6.ensures c.plain-7.ensures c.plain-8.ensures in
    let written : IfOk c.written_ones.result (λ (v : Vec Declared Global). map seen v.items ≡ filter (is_written c.args.t.now.nodes c.args.id) (map seen ones)) = c.written_ones.ensures in
    subst (λ (ds : List DeclaredData). IfOk c.written_ones.result (λ (v : Vec Declared Global). map seen v.items ≡ filter (is_written c.args.t.now.nodes c.args.id) ds)) same written
