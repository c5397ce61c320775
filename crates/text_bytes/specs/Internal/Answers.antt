-- What the code's classes of bytes are in the definitions' terms.
use Rattle.text_bytes.specs.declared.bytes.Class.{Class as ByteClass}
use Rattle.text_bytes.specs.declared.bytes.Class.TheVariants.{Blank, Opener, Closer, Quote, Semicolon, Letter, Other}
use Rattle.text_bytes.specs.Bytes.{Class, blank, opener, closer, quote, semicolon, letter, other}

unfoldable pub class_named : ByteClass → Class
class_named Blank = blank
class_named Opener = opener
class_named Closer = closer
class_named Quote = quote
class_named Semicolon = semicolon
class_named Letter = letter
class_named Other = other
