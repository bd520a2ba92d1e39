-- Datapath ids and addresses as texts, by the parts of them.
use Rattle.std.specs.Prelude.{ℕ, ◌+◌, ◌*◌, ◌==◌, if◌then◌else◌, List, length, codes, Option, Some, None, option_and_then}
use Rattle.mon_text.specs.Parts.{Part, ended, both, seen, number_within, datapath_in}
use Rattle.mon_settings.specs.declared.address.Address.{Address}

-- what is read, where nothing stands behind it
abbrev pub whole : {X : Type 0} → Part X → Option X
whole part = option_and_then (λ p. if length p.1 == 0 then Some p.0 else None) part

-- a datapath id: 16 lower hexadecimal digits
abbrev pub datapath_of : List ℕ → Option ℕ
datapath_of text = whole (datapath_in text)

-- a number of 0 to 255, and then these bytes
abbrev pub octet_before : List ℕ → List ℕ → Part ℕ
octet_before end = ended end (number_within 0 255)

-- an address of four numbers and a port
abbrev pub address_with : ℕ × (ℕ × (ℕ × (ℕ × ℕ))) → Address
address_with x = record { ip = 65536 * (256 * x.0 + x.1.0) + (256 * x.1.1.0 + x.1.1.1.0); port = x.1.1.1.1 }

-- four numbers with full stops between them, a colon and a port
unfoldable pub address_in : List ℕ → Part Address
address_in =
    seen address_with
    (both (octet_before (codes "."))
    (both (octet_before (codes "."))
    (both (octet_before (codes "."))
    (both (octet_before (codes ":"))
    (number_within 1 65535)))))

-- an address, as in 127.0.0.1:6633
abbrev pub address_of : List ℕ → Option Address
address_of text = whole (address_in text)
