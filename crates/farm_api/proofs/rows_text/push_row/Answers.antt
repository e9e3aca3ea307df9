use Rattle.farm_api.proofs.rows_text.push_row.Goals as goal

pub returns : goal.returns
returns c = rw (c.before_number.ensures, c.as_bytes.ensures.value, c.format.ensures.text, c.as_bytes-2.ensures.value, c.answer_text.ensures) at c.push_pieces.ensures
