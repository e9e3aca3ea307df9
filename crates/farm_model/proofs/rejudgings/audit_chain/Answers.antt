use Rattle.std.proofs.Common.{refl}
use Rattle.std.specs.Fmt.{digits}
use Rattle.hex.specs.Hex.{encode_with}
use Rattle.sha2.specs.Sha256.{sha256, digest_bytes, hash_after, compress, rounds, schedule, first_words}
use Rattle.farm_model.proofs.rejudgings.audit_chain.Goals as goal

pub returns : goal.returns
unfolding digits encode_with sha256 digest_bytes hash_after compress rounds schedule first_words
returns c = refl
