-- What the two sides of a SCRAM exchange show each other (RFC 5802 section 3).
use Rattle.std.specs.Prelude.{ℕ, List, codes}
use Rattle.registration.specs.declared.scram_hash.ScramHash.{ScramHash}
use Rattle.registration.specs.Macs.{combined, hash_of, hmac}

-- ClientKey := HMAC(SaltedPassword, "Client Key")
abbrev pub client_key : ScramHash → List ℕ → List ℕ
client_key hash salted = hmac hash salted (codes "Client Key")

-- StoredKey := H(ClientKey)
abbrev pub stored_key : ScramHash → List ℕ → List ℕ
stored_key hash salted = hash_of hash (client_key hash salted)

-- ClientSignature := HMAC(StoredKey, AuthMessage)
abbrev pub client_signature : ScramHash → List ℕ → List ℕ → List ℕ
client_signature hash salted auth = hmac hash (stored_key hash salted) auth

-- ClientProof := ClientKey XOR ClientSignature
abbrev pub client_proof : ScramHash → List ℕ → List ℕ → List ℕ
client_proof hash salted auth = combined (client_key hash salted) (client_signature hash salted auth)

-- ServerKey := HMAC(SaltedPassword, "Server Key")
abbrev pub server_key : ScramHash → List ℕ → List ℕ
server_key hash salted = hmac hash salted (codes "Server Key")

-- ServerSignature := HMAC(ServerKey, AuthMessage)
abbrev pub server_signature : ScramHash → List ℕ → List ℕ → List ℕ
server_signature hash salted auth = hmac hash (server_key hash salted) auth
