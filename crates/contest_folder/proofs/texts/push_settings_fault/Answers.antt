use Rattle.contest_folder.proofs.texts.push_settings_fault.Goals as goal

pub returns-in-UnknownKey : goal.returns-in-UnknownKey
returns-in-UnknownKey c = rw c.in-UnknownKey.is (rw c.as_slice.ensures at c.push_named.ensures)

pub returns-in-BadValue : goal.returns-in-BadValue
returns-in-BadValue c = rw c.in-BadValue.is (rw c.as_slice-in-BadValue.ensures at c.push_named-in-BadValue.ensures)
