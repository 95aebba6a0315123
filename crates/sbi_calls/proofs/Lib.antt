mod BitLemmas
mod HartLists
mod StartLemmas
mod Starts
