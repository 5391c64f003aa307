mod lemmas
mod WorkedWorker
