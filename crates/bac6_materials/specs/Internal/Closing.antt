-- A closing bracket after a value that has been read.
use Rattle.parse_spec.specs.Readers.{Got, Reader, after, ◌>>◌, pure, close_bracket}

unfoldable pub close_with : {A : Type 0} → A → Reader A
close_with a = close_bracket >> pure a

abbrev pub then_closed : {A : Type 0} → Got A → Got A
then_closed g = after g close_with
