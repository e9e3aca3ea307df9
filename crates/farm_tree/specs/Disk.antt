-- What the errors and the metadata of the system's files mean.
use Rattle.std.specs.Prelude.{◌≡◌, ◌<◌, ◌≤◌, Option, Some, None}
use Rattle.std.specs.Fs.{IsDir, IsFile, file_type, metadata_len}
use Rattle.std.specs.declared.fs.Metadata.{Metadata}
use Rattle.std.specs.declared.io.ErrorKind.{ErrorKind}
use Rattle.std.specs.declared.io.ErrorKind.TheVariants as kind
use Rattle.farm_tree.specs.declared.reads.TreeErr.{TreeErr}
use Rattle.farm_tree.specs.declared.reads.TreeErr.TheVariants.{Absent, TooLarge, Failed, NoMemory}
use Rattle.farm_tree.specs.Reading.{file_limit}

-- no file is there, or a folder is
abbrev pub meaning : ErrorKind → TreeErr
meaning kind.NotFound = Absent
meaning kind.NotADirectory = Absent
meaning kind.IsADirectory = Absent
meaning kind.OutOfMemory = NoMemory
meaning _ = Failed

-- a pipe, a socket or a device
abbrev pub IsSpecial : Metadata → Type 0
IsSpecial about = (¬ IsFile (file_type about)) × (¬ IsDir (file_type about))

-- a folder is no file, what is neither is not read, and a file has a limit
pub record IsRefusal (about : Metadata) (result : Option TreeErr) : Type 0 where
  pub folder : IsDir (file_type about) → result ≡ Some Absent
  pub special : IsSpecial about → result ≡ Some Failed
  pub large : IsFile (file_type about) → file_limit < metadata_len about → result ≡ Some (TooLarge (metadata_len about))
  pub none : IsFile (file_type about) → metadata_len about ≤ file_limit → result ≡ None
