-- What the code's forms and tokens are in the definitions' terms.
use Rattle.text_numerals.specs.Numbers.{Form, INT, FLOAT}
use Rattle.parse_numbers.specs.declared.numerals.Form.{Form as FormName}
use Rattle.parse_numbers.specs.declared.numerals.Form.TheVariants.{Int, Float}

unfoldable pub form_named : FormName → Form
form_named Int = INT
form_named Float = FLOAT
