-- A client's side of a SCRAM exchange, from message to message.
use Rattle.std.specs.Prelude.{◌≡◌, ℕ, List, Some, None, Result, Ok, Err}
use Rattle.bytetext.specs.declared.failure.Failure.{Failure}
use Rattle.bytetext.specs.declared.failure.Failure.TheVariants.{Refused, NoMemory}
use Rattle.registration.specs.declared.credentials.Credentials.{Credentials}
use Rattle.registration.specs.declared.scram.Scram.{Scram}
use Rattle.registration.specs.declared.scram.Salting.{Salting}
use Rattle.registration.specs.declared.scram.ClientFinal.{ClientFinal}
use Rattle.registration.specs.declared.scram_fault.ScramFault.{ScramFault}
use Rattle.registration.specs.Messages.{auth_message, client_final, final_fault, first_refusal, iterations_of, nonce_in, salt_of, without_proof}
use Rattle.registration.specs.Pbkdf2.{begun, sum_of}
use Rattle.registration.specs.Proofs.{client_proof, server_signature}

-- what is derived after a server-first-message that is not refused
abbrev pub salting_of : Scram → Credentials → List ℕ → Salting
salting_of scram account message = record {
  hash = scram.hash;
  derivation = begun scram.hash account.password (salt_of message) (iterations_of message);
  front = without_proof (nonce_in message);
  auth = auth_message account.name scram.nonce message;
}

-- what comes of a server-first-message
abbrev pub AnswersFirst : Scram → Credentials → List ℕ → Result Salting (Failure ScramFault) → Type 0
AnswersFirst scram account message (Ok salting) =
    (first_refusal scram.nonce message ≡ None) × (salting ≡ salting_of scram account message)
AnswersFirst scram account message (Err (Refused fault)) = first_refusal scram.nonce message ≡ Some fault
AnswersFirst scram account message (Err NoMemory) = Unit {0}

-- what the client says once the salted password is derived, and the signature that it expects from the server
abbrev pub final_of : Salting → ClientFinal
final_of salting =
    let salted = sum_of salting.derivation in record {
      message = client_final salting.front (client_proof salting.hash salted salting.auth);
      signature = server_signature salting.hash salted salting.auth;
    }

-- what comes of a server-final-message
abbrev pub AnswersFinal : List ℕ → List ℕ → Result (Unit {0}) (Failure ScramFault) → Type 0
AnswersFinal signature message (Ok _) = final_fault signature message ≡ None
AnswersFinal signature message (Err (Refused fault)) = final_fault signature message ≡ Some fault
AnswersFinal signature message (Err NoMemory) = Unit {0}
