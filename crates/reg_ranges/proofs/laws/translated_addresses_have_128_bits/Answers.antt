use Rattle.reg_ranges.proofs.TranslationLaws.{translated_below, translation_below}
use Rattle.reg_ranges.proofs.laws.translated_addresses_have_128_bits.Goals as goal

pub returns : goal.returns
returns c = record { ways = translated_below; tree = translation_below }
