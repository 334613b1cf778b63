-- Laws of the API text, for those who reason about its macros.
use Rattle.std.specs.Prelude.{◌≡◌, List, true, map}
use Rattle.std.specs.List.{filter_map}
use Rattle.c_tokens.specs.LineData.{LineData}
use Rattle.c_tokens.specs.Lines.{AtEnd, LinesOf}
use Rattle.c_macro.specs.Directive.{all_differ, line_directive}
use Rattle.dt_api.specs.ApiText.{api_text}
use Rattle.dt_api.specs.Defining.{Definition, api_definitions, defined_as}

-- the text is read as lines that define what its lines by themselves define, and each name once
pub record IsApiRead (lines : List LineData) : Type 0 where
  pub read : LinesOf (record { rest = api_text; number = 1 }) lines (AtEnd 128)
  pub defined : filter_map (λ line. defined_as (line_directive line)) lines ≡ api_definitions
  pub differ : all_differ (map (λ (d : Definition). d.0) api_definitions) ≡ true

abbrev pub ApiTextIsRead : Type 0
ApiTextIsRead = (lines : List LineData) × IsApiRead lines
