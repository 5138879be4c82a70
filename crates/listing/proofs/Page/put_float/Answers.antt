-- `put_float` meets its contract: a NaN is put as its name, and any other float as its bits. Assumes nothing.
use Rattle.std.proofs.Common.{◌≡◌, true, false, sym, ap, ◌∙◌}
use lib.Ieee.{binary64, is_nan, to_bits}
use Rattle.definition.specs.Job.{digits, hexadecimal}
use Rattle.hex.specs.Hex.{lower_digits, encode_with}
use Rattle.listing.proofs.Pages.{puts_on}
use Rattle.listing.proofs.Numbers.{bytes_text}
use Rattle.listing.proofs.Page.put_float.Goals as goal

pub returns-then-is_nan : goal.returns-then-is_nan
unfolding hexadecimal
returns-then-is_nan c =
    let e : is_nan c.args.x ≡ true = sym c.is_nan.ensures.value ∙ c.if-is_nan.true in
    rw e (puts_on c.put_text.ensures c.put_byte.ensures)

pub returns-else-is_nan : goal.returns-else-is_nan
unfolding hexadecimal
returns-else-is_nan c =
    let e : is_nan c.args.x ≡ false = sym c.is_nan.ensures.value ∙ c.if-is_nan.false in
    let text : c.encode_to_slice.new.output ≡ digits 16 16 (to_bits binary64 c.args.x) = (rw c.unwrap.ensures at c.encode_to_slice.ensures.written) ∙ ap (encode_with lower_digits) c.to_be_bytes.ensures ∙ bytes_text 8 (to_bits binary64 c.args.x) in
    rw (e, ← text) (puts_on c.put_text-else-is_nan.ensures c.put_byte-else-is_nan.ensures)
