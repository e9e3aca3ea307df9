use Rattle.std.specs.Prelude.{ℕ, ◌/◌, ◌%◌, List, [], ◌∷◌, ◌++◌, replicate}

-- ---- a small executable, for examples

abbrev pub half_bytes : ℕ → List ℕ
half_bytes n = n % 0x100 ∷ n / 0x100 % 0x100 ∷ []

abbrev pub word_bytes : ℕ → List ℕ
word_bytes n = n % 0x100 ∷ n / 0x100 % 0x100 ∷ n / 0x10000 % 0x100 ∷ n / 0x1000000 % 0x100 ∷ []

-- an ELF header: the 16 bytes of identification, e_type, e_machine, e_version, e_entry, e_phoff, e_shoff, e_flags,
-- e_ehsize, e_phentsize, e_phnum, e_shentsize, e_shnum and e_shstrndx
abbrev pub header : ℕ → ℕ → List ℕ
header e_entry e_phnum =
    (0x7F ∷ 0x45 ∷ 0x4C ∷ 0x46 ∷ 1 ∷ 1 ∷ 1 ∷ []) ++ replicate 9 0
    ++ half_bytes 2 ++ half_bytes 243 ++ word_bytes 1 ++ word_bytes e_entry ++ word_bytes 52
    ++ word_bytes 0 ++ word_bytes 0
    ++ half_bytes 52 ++ half_bytes 32 ++ half_bytes e_phnum ++ half_bytes 40 ++ half_bytes 0 ++ half_bytes 0

-- a program header: p_type, p_offset, p_vaddr, p_paddr, p_filesz, p_memsz, p_flags and p_align
abbrev pub load : ℕ → ℕ → ℕ → ℕ → List ℕ
load p_offset p_vaddr p_filesz p_memsz =
    word_bytes 1 ++ word_bytes p_offset ++ word_bytes p_vaddr ++ word_bytes 0
    ++ word_bytes p_filesz ++ word_bytes p_memsz
    ++ word_bytes 5 ++ word_bytes 4

-- two instructions at 0x10054 that exit with 0: addi a7, zero, 93; ecall
abbrev pub smallest : ℕ → ℕ → List ℕ
smallest e_entry e_phnum =
    header e_entry e_phnum ++ load 84 0x10054 8 16 ++ word_bytes 0x05D00893 ++ word_bytes 0x00000073
