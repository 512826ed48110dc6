use Rattle.std.proofs.Common.{◌^◌, ◌<◌, sym, ap, ◌∙◌, subst}
use lib.Bits.{bit_and}
use Rattle.std.proofs.lemmas.Nat.{and_mask, mod_below, pow_pos}
use Rattle.value.proofs.Masks.{mask_is}
use Rattle.value.proofs.makes.low_bits.Goals as goal

pub returns : goal.returns
returns c =
    let e = ap (bit_and c.args.bits) (mask_is c.args.width c.requires.fits) ∙ and_mask c.args.bits c.args.width in
    record { value = e; below = subst (λ r. r < 2 ^ c.args.width) (sym e) (mod_below _ _ (pow_pos c.args.width)) }
