-- `ubfa::ubfa_decode` meets its contract.
use Rattle.ubfa.proofs.Places.{answered-place}
use Rattle.ubfa.proofs.ubfa_decode.Goals as goal

pub decoded_numbers-requires : goal.decoded_numbers-requires
decoded_numbers-requires c t = answered-place _ _ _ _ t c.decode.ensures
