use Rattle.etcs_radio.proofs.MessageLemmas.{message_meant, means_message}
use Rattle.etcs_radio.proofs.laws.messages_are_decoded.Goals as goal

-- reading gives the rows in the bytes, which are the message's rows
pub returns-clause-meant : goal.returns-clause-meant
returns-clause-meant c = λ m bytes. (message_meant m bytes, means_message m bytes)

-- reading gives one message
pub returns-clause-one : goal.returns-clause-one
returns-clause-one c = λ m k bytes one other.
    let a = message_meant m bytes one in
    let b = message_meant k bytes other in
    cc
