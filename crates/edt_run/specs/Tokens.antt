-- The tokens that the program reads, as tokens of the small source.
use Rattle.std.specs.Prelude.{Option, Some, None}
use Rattle.edt_run.specs.declared.token.Token.{Token}
use Rattle.edt_run.specs.declared.token.Token.TheVariants as read
use Rattle.edt_run.specs.Small as small

abbrev pub token_of : Token → Option small.Token
token_of read.Version = Some small.Version
token_of read.Slash = Some small.Slash
token_of read.Open = Some small.Open
token_of read.Close = Some small.Close
token_of read.Semicolon = Some small.Semicolon
token_of (read.Name name) = Some (small.Name name.now)
token_of read.Other = None
