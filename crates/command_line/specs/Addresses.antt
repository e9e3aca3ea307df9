-- The address of a machine that a text writes.
use Rattle.std.specs.Prelude.{ℕ, List, [], ◌∷◌, Option, Some, None, option_map}
use Rattle.std.specs.Option.{option_or}
use Rattle.std.specs.Net.Reader.{read_ipv4, read_ipv6, whole_value}
use Rattle.std.specs.declared.net.ip_addr.IpAddr.{IpAddr}
use Rattle.std.specs.declared.net.ip_addr.IpAddr.TheVariants.{V4, V6}

abbrev pub ipv4 : List ℕ → IpAddr
ipv4 octets = V4 record { octets = octets }

abbrev pub ipv6 : List ℕ → IpAddr
ipv6 segments = V6 record { segments = segments }

-- the address that the text writes: four numbers below 256 without leading zeros and with dots between them; or groups of up to
-- four hexadecimal digits with colons between them, eight or, with `::` for the zeros that are left out, fewer, and the last two
-- perhaps as four numbers with dots. It is the one address that std's grammar, `IsIpText`, has for the text.
abbrev pub address_of : List ℕ → Option IpAddr
address_of text = option_or (option_map ipv4 (whole_value (read_ipv4 text))) (option_map ipv6 (whole_value (read_ipv6 text)))

-- the address by which a machine speaks with itself
abbrev pub loopback : IpAddr
loopback = ipv4 (127 ∷ 0 ∷ 0 ∷ 1 ∷ [])

-- the address that is said, or that of the machine itself where none is
abbrev pub address_with : Option (List ℕ) → Option IpAddr
address_with None = Some loopback
address_with (Some text) = address_of text
